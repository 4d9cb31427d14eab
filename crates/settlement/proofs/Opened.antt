-- New deals in the lent bytes, one after the other.
use Rattle.std.proofs.Common.{◌≡◌, ℕ, suc, ◌+◌, ◌-◌, ◌*◌, ◌<◌, ◌≤◌, true, List, [], ◌∷◌, ◌++◌, length, get_or, sym, refl, ap, ◌∙◌, subst, ⊎_elim, arith}
use native.Mathlib.Nat.{add-sub_cancel_left}
use borrow.Rule.Slice.PartMut.{put_mid}
use Rattle.std.specs.List.{AllByRecursion, between}
use Rattle.std.proofs.lemmas.List.{append_assoc, length-append, get_or_append_left}
use Rattle.std.proofs.lemmas.Bool.{cases_eq}
use Rattle.octets.specs.Octets.{field, word}
use Rattle.deals.specs.Contract.{Contract, Deal}
use Rattle.deals.specs.Promise.{thin}
use Rattle.deals.specs.House.{Held, taken}
use Rattle.deals.specs.Payments.{gone}
use Rattle.texts.specs.Bounds.{TextTaken}
use Rattle.texts.specs.Nodes.{nodes_of}
use Rattle.texts.specs.declared.nodes.Node.{Node}
use Rattle.texts.specs.declared.stages.Stage.TheVariants.{Thin}
use Rattle.texts.proofs.Verdicts.{one_verdict}
use Rattle.mornings.specs.declared.Start.{Start}
use Rattle.mornings.specs.Places.{deal_at, IsDeal}
use Rattle.mornings.proofs.Handed.{handed_out}
use Rattle.residual.specs.declared.deal.Summary.{Summary}
use Rattle.residual.specs.Deal.{Opens}
use Rattle.settlement.specs.Directory.{part_of, EntryPut}
use Rattle.settlement.specs.Keeping.{Keeps}
use Rattle.settlement.specs.Opening.{new_deal, OpenedDeal, OpenedNext}
use Rattle.settlement.proofs.Places.{deal_lent}
use Rattle.settlement.proofs.Waking.{part_long}
use Rattle.settlement.proofs.Words.{keeps_moved}
use Rattle.settlement.proofs.Handed.{Ahead, ahead_more, ahead_end, next_has}

-- the part is lent, then the entry is written
pub opened_lent : (c holder other from : ℕ) (s s' bs : List ℕ) (marks : List Node) (kept : Summary) → 16384 * c + 16384 ≤ length s → length bs ≡ length (field (16384 * c + 12288 - 16384 * c) s (16384 * c)) →
    Opens from marks kept (field (16384 * c + 12288 - 16384 * c) s (16384 * c)) bs →
    EntryPut (put_mid (16384 * c) (16384 * c + 12288 - 16384 * c) s bs) c (record { holder = holder; other = other; kept = kept }) s' → OpenedDeal c holder other from marks s s'
unfolding part_of
opened_lent c holder other from s s' bs marks kept fits long opens entry =
    let put = deal_lent s s' bs c (record { holder = holder; other = other; kept = kept }) fits long entry in
    let mine = subst (λ z. Opens from marks kept (field z s (16384 * c)) bs) (add-sub_cancel_left (16384 * c) 12288) opens in
    record {
      keeps = λ x rs cs is fit few t early.
          record {
            holder = ap (λ z. z.holder) put.entry;
            other = ap (λ z. z.other) put.entry;
            left = rw (put.part, put.entry) (mine x rs cs is fit few t early (omega (arith, part_long s c fits)));
          };
      others = put.others;
    }

-- the deal at a place, by what its bytes say
pub opened_next : (st : Start) (bytes : List ℕ) (c at : ℕ) (s s' : List ℕ) (marks : List Node) (x : Contract) →
    TextTaken st.rates st.currencies (between (at + 10) (at + 10 + word 2 bytes (at + 8)) bytes) x → marks ≡ nodes_of x →
    OpenedDeal c (word 2 bytes at) (word 2 bytes (at + 2)) (word 4 bytes (at + 4)) marks s s' → OpenedNext st bytes c at s (at + 10 + word 2 bytes (at + 8)) s'
opened_next st bytes c at s s' marks x text is opened =
    record {
      means = λ day d j few read.
          let deal : IsDeal Thin st bytes (deal_at bytes at) d j = handed_out.0 Thin st day c at j bytes d read in
          let same : d.contract ≡ x = one_verdict.0 st.rates st.currencies (between (at + 10) (at + 10 + word 2 bytes (at + 8)) bytes) x d.contract text deal.text in (
            deal.ends,
            λ early.
                subst (λ z. Keeps s' c (new_deal z))
                (λ i. record { holder = deal.holder i; other = deal.other i; contract = sym same i; from = deal.from i })
                (opened.keeps x st.rates st.currencies is text.fits (omega arith) (subst (λ z. thin z ≡ true) same deal.built) (omega (arith, deal.from))),
          );
      others = opened.others;
    }

-- the row of deals, one more
more_taken : (xs : List Deal) (d : Deal) → taken (xs ++ d ∷ []) ≡ taken xs ++ new_deal d ∷ []
unfolding taken
more_taken [] d = refl
more_taken (x ∷ xs) d = ap (λ z. new_deal x ∷ z) (more_taken xs d)

pub taken_many : (xs : List Deal) → length (taken xs) ≡ length xs
unfolding taken
taken_many [] = refl
taken_many (x ∷ xs) = ap suc (taken_many xs)

getD_last : (xs : List Held) (x : Held) → get_or (xs ++ x ∷ []) (length xs) gone ≡ x
getD_last [] x = refl
getD_last (y ∷ xs) x = getD_last xs x

-- where no deal can stand, nothing is written
pub not_opened : (st : Start) (bytes : List ℕ) (c at : ℕ) (s : List ℕ) → ((day : ℕ) (d : Deal) (j : ℕ) → IsDeal Thin st bytes (deal_at bytes at) d j → ⊥) → OpenedNext st bytes c at s at s
not_opened st bytes c at s none =
    record {
      means = λ day d j few read. absurd (none day d j (handed_out.0 Thin st day c at j bytes d read));
      others = record { parts = λ k ne room. refl; entries = λ k ne room. refl };
    }

-- some of the deals have been written, and the others stand behind a place
pub record Opening (st : Start) (day : ℕ) (bytes : List ℕ) (n first : ℕ) (dd : List Deal) (j : ℕ) (hs : List Held) (k at : ℕ) (s : List ℕ) : Type 0 where
  pub ahead : Ahead st day bytes n first dd j k at
  pub keeps : (c : ℕ) → c < first + k → Keeps s c (get_or (hs ++ taken ahead.done) c gone)

-- one more
pub opening_more : (st : Start) (day : ℕ) (bytes : List ℕ) (n first : ℕ) (dd : List Deal) (j : ℕ) (hs : List Held) (k at : ℕ) (s s' : List ℕ) (r : ℕ) → st.currencies ≤ 64 → k < n → length hs ≡ first →
    16384 * (first + n) ≤ length s → AllByRecursion (λ d. d.from < 65536) dd → OpenedNext st bytes (first + k) at s r s' → Opening st day bytes n first dd j hs k at s → Opening st day bytes n first dd j hs (k + 1) r s'
opening_more st day bytes n first dd j hs k at s s' r coins lt many-hs long early opened o =
    let x = ahead_more st day bytes n first dd j k at lt o.ahead in
    let met = opened.means day x.deal x.to coins x.read in
    let held : Keeps s' (first + k) (new_deal x.deal) = met.1 (next_has (λ d. d.from < 65536) st day bytes n first dd j k at o.ahead x early) in
    let before = hs ++ taken o.ahead.done in
    let front : length before ≡ first + k = length-append hs (taken o.ahead.done) ∙ omega (arith, many-hs, taken_many o.ahead.done, o.ahead.many) in
    let last_one : get_or (before ++ new_deal x.deal ∷ []) (first + k) gone ≡ new_deal x.deal =
    ap (λ z. get_or (before ++ new_deal x.deal ∷ []) z gone) (sym front) ∙ getD_last before (new_deal x.deal) in
    let all : hs ++ taken x.behind.done ≡ before ++ new_deal x.deal ∷ [] =
    ap (λ z. hs ++ taken z) x.done_is ∙ ap (λ z. hs ++ z) (more_taken o.ahead.done x.deal) ∙ sym (append_assoc hs (taken o.ahead.done) (new_deal x.deal ∷ [])) in
    subst (λ z. Opening st day bytes n first dd j hs (k + 1) z s') (sym met.0)
    (record {
      ahead = x.behind;
      keeps = λ c below.
          subst (λ z. Keeps s' c (get_or z c gone)) (sym all)
          (⊎_elim (λ is. subst (λ z. Keeps s' z (get_or (before ++ new_deal x.deal ∷ []) z gone)) (sym is) (subst (Keeps s' (first + k)) (sym last_one) held))
          (λ ne.
          subst (Keeps s' c) (sym (get_or_append_left before (new_deal x.deal ∷ []) gone c (omega (arith, front))))
          (keeps_moved s s' c (get_or before c gone) (opened.others.parts c ne (omega arith)) (opened.others.entries c ne (omega arith)) (o.keeps c (omega arith))))
          (cases_eq c (first + k)));
    })

-- all of them
pub opening_end : (st : Start) (day : ℕ) (bytes : List ℕ) (n first : ℕ) (dd : List Deal) (j : ℕ) (hs : List Held) (k at : ℕ) (s : List ℕ) → k ≡ n → Opening st day bytes n first dd j hs k at s →
    (c : ℕ) → c < first + n → Keeps s c (get_or (hs ++ taken dd) c gone)
opening_end st day bytes n first dd j hs k at s all o c below =
    subst (λ z. Keeps s c (get_or (hs ++ taken z) c gone)) (sym (ahead_end st day bytes n first dd j k at all o.ahead)) (o.keeps c (omega arith))
