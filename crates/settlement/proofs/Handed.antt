-- The deals of a judged morning, handed out one after the other: those that were and those that are to come.
use Rattle.std.proofs.Common.{◌≡◌, ℕ, suc, ◌+◌, ◌-◌, ◌<◌, List, [], ◌∷◌, ◌++◌, length, sym, refl, ap, ◌∙◌, subst, add-zero, arith}
use native.Mathlib.Nat.{sub-zero}
use Rattle.std.proofs.lemmas.List.{append-nil, append_assoc, length-append}
use Rattle.std.specs.List.{AllByRecursion}
use Rattle.deals.specs.Contract.{Deal}
use Rattle.texts.specs.declared.stages.Stage.TheVariants.{Thin}
use Rattle.mornings.specs.declared.Start.{Start}
use Rattle.mornings.specs.Verdict as verdict
use Rattle.mornings.specs.Verdict.{Row}
use Rattle.mornings.specs.Judgement.{DealRead}
use Rattle.mornings.specs.Places.{deal_at, IsDeal}
use Rattle.mornings.proofs.Handed.{handed_out, walked}

-- k deals were handed out, and the others stand behind a place
pub record Ahead (st : Start) (day : ℕ) (bytes : List ℕ) (n first : ℕ) (dd : List Deal) (j k at : ℕ) : Type 0 where
  pub done : List Deal
  pub rest : List Deal
  pub parts : dd ≡ done ++ rest
  pub many : length done ≡ k
  pub row : Row (n - k) (DealRead Thin st day) (first + k) bytes at (verdict.taken rest j)

-- the next one, and what is ahead behind it
pub record Next (st : Start) (day : ℕ) (bytes : List ℕ) (n first : ℕ) (dd : List Deal) (j k at : ℕ) (a : Ahead st day bytes n first dd j k at) : Type 0 where
  pub deal : Deal
  pub to : ℕ
  pub read : DealRead Thin st day (first + k) bytes at (verdict.taken deal to)
  pub is : IsDeal Thin st bytes (deal_at bytes at) deal to
  pub behind : Ahead st day bytes n first dd j (k + 1) to
  pub done_is : behind.done ≡ a.done ++ deal ∷ []

pub ahead_start : (st : Start) (day : ℕ) (bytes : List ℕ) (n first : ℕ) (dd : List Deal) (j : ℕ) → Row n (DealRead Thin st day) first bytes 2 (verdict.taken dd j) → Ahead st day bytes n first dd j 0 2
ahead_start st day bytes n first dd j row =
    record {
      done = [];
      rest = dd;
      parts = refl;
      many = refl;
      row = subst (λ z. Row z (DealRead Thin st day) (first + 0) bytes 2 (verdict.taken dd j)) (sym (sub-zero n)) (subst (λ z. Row n (DealRead Thin st day) z bytes 2 (verdict.taken dd j)) (sym (add-zero first)) row);
    }

pub none_done : (st : Start) (day : ℕ) (bytes : List ℕ) (n first : ℕ) (dd : List Deal) (j : ℕ) (row : Row n (DealRead Thin st day) first bytes 2 (verdict.taken dd j)) →
    (ahead_start st day bytes n first dd j row).done ≡ []
unfolding ahead_start
none_done st day bytes n first dd j row = refl

pub ahead_more : (st : Start) (day : ℕ) (bytes : List ℕ) (n first : ℕ) (dd : List Deal) (j k at : ℕ) → k < n → (a : Ahead st day bytes n first dd j k at) → Next st day bytes n first dd j k at a
ahead_more st day bytes n first dd j k at lt a =
    let here = (walked.0 Thin st day).1 (n - (k + 1)) (first + k) at j bytes a.rest (subst (λ z. Row z (DealRead Thin st day) (first + k) bytes at (verdict.taken a.rest j)) left a.row) in
    record {
      deal = here.0;
      to = here.2;
      read = here.4;
      is = handed_out.0 Thin st day (first + k) at here.2 bytes here.0 here.4;
      behind =
          record {
            done = a.done ++ here.0 ∷ [];
            rest = here.1;
            parts = a.parts ∙ ap (λ z. a.done ++ z) here.3 ∙ sym (append_assoc a.done (here.0 ∷ []) here.1);
            many = length-append a.done (here.0 ∷ []) ∙ omega (arith, a.many);
            row = subst (λ z. Row (n - (k + 1)) (DealRead Thin st day) z bytes here.2 (verdict.taken here.1 j)) next here.5;
          };
      done_is = refl;
    }
  where
    left : n - k ≡ suc (n - (k + 1))
    left = omega arith

    next : suc (first + k) ≡ first + (k + 1)
    next = omega arith

-- once all were handed out nothing is ahead
pub ahead_end : (st : Start) (day : ℕ) (bytes : List ℕ) (n first : ℕ) (dd : List Deal) (j k at : ℕ) → k ≡ n → (a : Ahead st day bytes n first dd j k at) → dd ≡ a.done
ahead_end st day bytes n first dd j k at all a =
    let none : length a.rest ≡ 0 = (walked.0 Thin st day).0 0 (first + k) at j bytes a.rest (subst (λ z. Row z (DealRead Thin st day) (first + k) bytes at (verdict.taken a.rest j)) over a.row) in
    a.parts ∙ ap (λ z. a.done ++ z) (empty a.rest none) ∙ append-nil a.done
  where
    over : n - k ≡ 0
    over = omega arith

    empty : (xs : List Deal) → length xs ≡ 0 → xs ≡ []
    empty [] e = refl
    empty (x ∷ xs) e = absurd (omega arith)

among : (P : Deal → Type 0) (xs : List Deal) (d : Deal) (ys : List Deal) → AllByRecursion P (xs ++ d ∷ ys) → P d
among P [] d ys (a, h) = a
among P (x ∷ xs) d ys (a, h) = among P xs d ys h

-- what is true of all deals is true of the next
pub next_has : (P : Deal → Type 0) (st : Start) (day : ℕ) (bytes : List ℕ) (n first : ℕ) (dd : List Deal) (j k at : ℕ) (a : Ahead st day bytes n first dd j k at) (x : Next st day bytes n first dd j k at a) →
    AllByRecursion P dd → P x.deal
next_has P st day bytes n first dd j k at a x all =
    among P a.done x.deal x.behind.rest
    (subst (AllByRecursion P) (x.behind.parts ∙ ap (λ z. z ++ x.behind.rest) x.done_is ∙ append_assoc a.done (x.deal ∷ []) x.behind.rest) all)
