-- What the reader of a number promises. Assumes nothing.
use Rattle.std.proofs.Common.{◌≡◌, ◌≢◌, ℕ, Some, None, Option, unwrap_or, MatchOption, zero, suc, pred, ◌+◌, ◌-◌, ◌*◌, ◌<◌, ◌≤◌, min, Bool, true, false, List, [], ◌∷◌, ◌++◌, length, get_or, ℤ, pos, negsuc, codes, sym, refl, ap, ◌∙◌, subst, append_assoc, arith}
use Rattle.std.specs.List.{between}
use Rattle.std.proofs.lemmas.List.{get_or_default}
use Rattle.std.proofs.lemmas.List.Edits.{between_none, between_more, length-between, get_or-between}
use Rattle.std.proofs.lemmas.Bool.{and_parts, and_from}
use Rattle.std.proofs.lemmas.Bool.Decides.{nat_tests}
use Rattle.texts.specs.Text.{Language, digit, digits, spelt, Number, Amount}
use Rattle.texts.specs.Reading.{byte_at, Begins, Any, NoDigit, Word, Positive, Taken, Stuck, Took, Stops, capped}
use Rattle.texts.proofs.OneWord.{byte_within, byte_took}
use Rattle.texts.proofs.Parts.{Pair, took_as, stops_as, took_then, stops_behind}

-- true is not false
pub clash : (b : Bool) → b ≡ true → b ≡ false → ⊥
clash b p q = let z : true ≡ false = sym p ∙ q in grind arith

-- a digit is a byte, and stands within the text
digit_small : (b : ℕ) → digit b ≡ true → b < 256
digit_small b d = grind (arith, nat_tests)

pub digit_within : (text : List ℕ) (i : ℕ) → digit (byte_at text i) ≡ true → i < length text
digit_within text i d = byte_within text i (byte_at text i) refl (digit_small (byte_at text i) d)

-- digits as far as they go are the same digits
pub same_run : (u w t k : List ℕ) (b : ℕ) → digits u ≡ true → digit b ≡ false → digits w ≡ true → NoDigit k → u ++ b ∷ t ≡ w ++ k → w ≡ u
same_run [] [] t k b du nb dw nk e = refl
same_run [] (c ∷ w) t k b du nb dw nk e =
    let same : b ≡ c = cc in
    absurd (clash (digit c) (and_parts (digit c) (digits w) dw).0 (ap digit (sym same) ∙ nb))
same_run (a ∷ u) [] t k b du nb dw nk e = absurd (clash (digit a) (and_parts (digit a) (digits u) du).0 (ap (λ r. digit (byte_at r 0)) e ∙ nk))
same_run (a ∷ u) (c ∷ w) t k b du nb dw nk e =
    let same : c ≡ a = cc in
    let rest : u ++ b ∷ t ≡ w ++ k = cc in
    let run = same_run u w t k b (and_parts (digit a) (digits u) du).1 nb (and_parts (digit c) (digits w) dw).1 nk rest in
    cc

-- no digit, or 0, no number above 0
no_positive : (b : ℕ) → (digit b ≡ true → b ≡ 48) → Stuck NoDigit Positive [] b
no_positive b nb = record {
  goes = (0, 49 ∷ [], record { some = omega arith; plain = refl; lead = λ _. refl; worth = refl });
  none = λ y w k n f h. at w k n h;
}
  where
    at : {y : ℕ} (w k : List ℕ) → Positive y w → Begins (b ∷ []) (w ++ k) → ⊥
    at [] k n h = let s = n.some in omega arith
    at (c ∷ []) k n h =
        let same : c ≡ b = let q = h.1 in cc in
        let zero : c ≡ 48 = same ∙ nb (ap digit (sym same) ∙ (and_parts (digit c) true n.plain).0) in
        let none = n.worth in
        omega arith
    at (c ∷ d ∷ w) k n h =
        let same : c ≡ b = let q = h.1 in cc in
        let zero : c ≡ 48 = same ∙ nb (ap digit (sym same) ∙ (and_parts (digit c) (digits (d ∷ w)) n.plain).0) in
        let one = n.lead zero in
        omega arith

pub positive_stops : (text : List ℕ) (at : ℕ) → at ≤ length text → (digit (byte_at text at) ≡ true → byte_at text at ≡ 48) → Stops NoDigit Positive text at at
positive_stops text at h nb = record {
  forward = omega arith;
  within = h;
  stuck = subst (λ u. Stuck NoDigit Positive u (byte_at text at)) (sym (between_none text at)) (no_positive (byte_at text at) nb);
}

-- 0 stands alone
zero_taken : (b : ℕ) → Taken NoDigit Number (48 ∷ []) b 0
zero_taken b = record {
  word = record { some = omega arith; plain = refl; lead = λ _. refl; worth = refl };
  only = λ y w k n f h. at w k n h;
}
  where
    at : {y : ℕ} (w k : List ℕ) → Number y w → Begins (48 ∷ b ∷ []) (w ++ k) → (w ≡ 48 ∷ []) × (y ≡ 0)
    at [] k n h = let s = n.some in absurd (omega arith)
    at (c ∷ []) k n h =
        let same : 48 ≡ c = let q = h.1 in cc in
        let whole : c ∷ [] ≡ 48 ∷ [] = cc in
        (whole, sym n.worth ∙ ap (spelt 0) whole)
    at (c ∷ d ∷ w) k n h =
        let same : c ≡ 48 = let q = h.1 in cc in
        let l = n.lead same in
        absurd (omega arith)

pub zero_took : (text : List ℕ) (at : ℕ) → byte_at text at ≡ 48 → Took NoDigit Number text at (at + 1) 0
zero_took text at e =
    let near = byte_within text at 48 e (omega arith) in
    record {
      forward = omega arith;
      within = omega arith;
      taken = subst (λ u. Taken NoDigit Number u (byte_at text (at + 1)) 0)
          (sym (between_more text at at 256 (omega arith) near ∙ ap (λ u. u ++ byte_at text at ∷ []) (between_none text at) ∙ ap (λ b. b ∷ []) e))
          (zero_taken (byte_at text (at + 1)));
    }

-- digits write no less than what was read before them
spelt_grows : (n : ℕ) (w : List ℕ) → n ≤ spelt n w
spelt_grows n [] = omega arith
spelt_grows n (c ∷ w) = let more = spelt_grows (n * 10 + (c - 48)) w in omega arith

spelt_positive : (w : List ℕ) → 0 < length w → digits w ≡ true → (get_or w 0 0 ≡ 48 → ⊥) → 0 < spelt 0 w
spelt_positive [] s d z = omega arith
spelt_positive (c ∷ w) s d z =
    let more = spelt_grows (0 * 10 + (c - 48)) w in
    let big : 48 < c = let e = (and_parts (digit c) (digits w) d).0 in grind (arith, nat_tests) in
    omega arith

-- digits that don't begin with 0, up to what is no digit
pub positive_took : (text : List ℕ) (at to : ℕ) → at < to → to ≤ length text → digits (between at to text) ≡ true → (byte_at text at ≡ 48 → ⊥) → digit (byte_at text to) ≡ false →
    (n : ℕ) × (spelt 0 (between at to text) ≡ suc n) × Took NoDigit Positive text at to n
positive_took text at to h k d z nd = (
  pred (spelt 0 (between at to text)),
  worth,
  record {
    forward = omega arith;
    within = k;
    taken = record {
      word = record { some = some; plain = d; lead = λ e. absurd (z (front ∙ e)); worth = worth };
      only = λ y w r n f b.
          let run = same_run (between at to text) w b.0 r (byte_at text to) d nd n.plain f (sym (append_assoc (between at to text) (byte_at text to ∷ []) b.0) ∙ b.1) in
          (run, ap pred (sym n.worth ∙ ap (spelt 0) run));
    };
  },
)
  where
    front : byte_at text at ≡ get_or (between at to text) 0 0
    front =
        let near : at + 0 < to = omega arith in
        let same : at ≡ at + 0 = omega arith in
        let inside : at < length text = omega arith in
        get_or_default text at 256 0 inside ∙ ap (λ i. get_or text i 0) same ∙ sym (get_or-between text at to 0 0 near)

    some : 0 < length (between at to text)
    some = rw (length-between text at to k) (omega arith)

    worth : spelt 0 (between at to text) ≡ suc (pred (spelt 0 (between at to text)))
    worth = let p = spelt_positive (between at to text) some d (λ e. z (front ∙ e)) in omega arith

-- one digit more
digits_push : (w : List ℕ) (c : ℕ) → digits w ≡ true → digit c ≡ true → digits (w ++ c ∷ []) ≡ true
digits_push [] c h d = and_from (digit c) true d refl
digits_push (a ∷ w) c h d =
    let p = and_parts (digit a) (digits w) h in
    and_from (digit a) (digits (w ++ c ∷ [])) p.0 (digits_push w c p.1 d)

spelt_push : (n : ℕ) (w : List ℕ) (c : ℕ) → spelt n (w ++ c ∷ []) ≡ spelt n w * 10 + (c - 48)
spelt_push n [] c = refl
spelt_push n (a ∷ w) c = spelt_push (n * 10 + (a - 48)) w c

pub digits_more : (text : List ℕ) (at to : ℕ) → at ≤ to → to < length text → digits (between at to text) ≡ true → digit (byte_at text to) ≡ true →
    digits (between at (to + 1) text) ≡ true
digits_more text at to h l d e = ap digits (between_more text at to 256 h l) ∙ digits_push (between at to text) (byte_at text to) d e

pub spelt_more : (text : List ℕ) (at to : ℕ) → at ≤ to → to < length text →
    spelt 0 (between at (to + 1) text) ≡ spelt 0 (between at to text) * 10 + (byte_at text to - 48)
spelt_more text at to h l = ap (spelt 0) (between_more text at to 256 h l) ∙ spelt_push 0 (between at to text) (byte_at text to)

-- a number held is one digit more, too
pub capped_more : (n d v m : ℕ) → v ≡ capped n → m ≡ min (v * 10) 18446744073709551615 → min (m + d) 18446744073709551615 ≡ capped (n * 10 + d)
capped_more n d v m e f = omega arith

-- a number that doesn't begin with 0 is above 0
module _ (text : List ℕ) (at to : ℕ) (z : byte_at text at ≡ 48 → ⊥) where
  above : (y : ℕ) (w k : List ℕ) → Number y w → NoDigit k → ((i : ℕ) → at + i ≤ to → byte_at (w ++ k) i ≡ byte_at text (at + i)) → at ≤ to → (n : ℕ) × Positive n w × (suc n ≡ y)
  above (suc n) w k h f same le = (n, h, refl)
  above zero [] k h f same le = let s = h.some in absurd (omega arith)
  above zero (c ∷ w) k h f same le =
      let here : at + 0 ≡ at = omega arith in
      let first : c ≡ byte_at text at = same 0 (omega arith) ∙ ap (λ i. byte_at text i) here in
      let p = spelt_positive (c ∷ w) h.some h.plain (λ e. z (sym first ∙ e)) in
      absurd (omega (arith, p, h.worth))

  pub number_took : (n : ℕ) → Took NoDigit Positive text at to n → Took NoDigit Number text at to (suc n)
  number_took n t = took_as NoDigit Positive Number suc (λ _ _ h. h) text at to (λ y w k h f same. above y w k h f same t.forward) n t

  pub number_stops : Stops NoDigit Positive text at to → Stops NoDigit Number text at to
  number_stops t = stops_as NoDigit Positive Number suc (λ _ _ h. h) text at to (λ y w k h f same. above y w k h f same t.forward) t

-- without "-" it is not below 0
module _ (text : List ℕ) (at to : ℕ) (m : byte_at text at ≡ 45 → ⊥) where
  plain : (y : ℤ) (w k : List ℕ) → Amount y w → NoDigit k → ((i : ℕ) → at + i ≤ to → byte_at (w ++ k) i ≡ byte_at text (at + i)) → at ≤ to → (n : ℕ) × Number n w × (pos n ≡ y)
  plain (pos n) w k h f same le = (n, h, refl)
  plain (negsuc n) w k h f same le =
      let here : at + 0 ≡ at = omega arith in
      let first : byte_at (w ++ k) 0 ≡ 45 = ap (λ v. byte_at (v ++ k) 0) (sym h.4 ∙ ap (λ v. v ++ h.1) h.2) in
      absurd (m (ap (λ i. byte_at text i) (sym here) ∙ sym (same 0 (omega arith)) ∙ first))

  pub plain_took : (n : ℕ) → Took NoDigit Number text at to n → Took NoDigit Amount text at to (pos n)
  plain_took n t = took_as NoDigit Number Amount pos (λ _ _ h. h) text at to (λ y w k h f same. plain y w k h f same t.forward) n t

  pub plain_stops : Stops NoDigit Number text at to → Stops NoDigit Amount text at to
  plain_stops t = stops_as NoDigit Number Amount pos (λ _ _ h. h) text at to (λ y w k h f same. plain y w k h f same t.forward) t

-- with "-" it is below 0
module _ (text : List ℕ) (at to : ℕ) (m : byte_at text at ≡ 45) where
  abbrev pub Below : Unit {0} × ℕ → Language
  Below = Pair (Word (codes "-")) Positive

  abbrev make : Unit {0} × ℕ → ℤ
  make p = negsuc p.1

  below : (y : ℤ) (w k : List ℕ) → Amount y w → NoDigit k → ((i : ℕ) → at + i ≤ to → byte_at (w ++ k) i ≡ byte_at text (at + i)) → at ≤ to → (p : Unit {0} × ℕ) × Below p w × (make p ≡ y)
  below (pos n) [] k h f same le = let s = h.some in absurd (omega arith)
  below (pos n) (c ∷ w) k h f same le =
      let here : at + 0 ≡ at = omega arith in
      let first : c ≡ 45 = same 0 (omega arith) ∙ ap (λ i. byte_at text i) here ∙ m in
      absurd (clash (digit c) (and_parts (digit c) (digits w) h.plain).0 (ap digit first))
  below (negsuc n) w k h f same le = ((tt, n), h, refl)

  pub minus_as : {p : Unit {0} × ℕ} → Took NoDigit Below text at to p → Took NoDigit Amount text at to (make p)
  minus_as {p} t = took_as NoDigit Below Amount make (λ _ _ h. h) text at to (λ y w k h f same. below y w k h f same t.forward) p t

  pub minus_took : (n : ℕ) → Took NoDigit Positive text (at + 1) to n → Took NoDigit Amount text at to (negsuc n)
  minus_took n t =
      let both = took_then Any NoDigit (Word (codes "-")) Positive (λ _ _ _ _ _. tt) text at (at + 1) to tt n (byte_took text at 45 m (omega arith)) t in
      took_as NoDigit Below Amount make (λ _ _ h. h) text at to (λ y w k h f same. below y w k h f same both.forward) (tt, n) both

  pub minus_stops : Stops NoDigit Positive text (at + 1) to → Stops NoDigit Amount text at to
  minus_stops t =
      let both = stops_behind Any NoDigit (Word (codes "-")) Positive (λ _ _ _ _ _. tt) text at (at + 1) to tt (byte_took text at 45 m (omega arith)) t in
      stops_as NoDigit Below Amount make (λ _ _ h. h) text at to (λ y w k h f same. below y w k h f same both.forward) both

-- the digit at a place, with 0 for none: it isn't above 0, or it is
pub first_zero : (b : ℕ) (o : Option ℕ) → MatchOption o (digit b ≡ false) (λ d. (digit b ≡ true) × (b ≡ 48 + d)) → unwrap_or o 0 ≡ 0 → digit b ≡ true → b ≡ 48
first_zero b None h z d = absurd (clash _ d h)
first_zero b (Some n) h z d = omega (arith, h.1)

pub first_above : (b : ℕ) (o : Option ℕ) → MatchOption o (digit b ≡ false) (λ d. (digit b ≡ true) × (b ≡ 48 + d)) → unwrap_or o 0 ≢ 0 → (digit b ≡ true) × (b ≢ 48)
first_above b None h z = absurd (z refl)
first_above b (Some n) h z = (h.0, λ e. z (omega (arith, h.1)))
