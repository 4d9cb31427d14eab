-- Words of days lie side by side, and the days that are still looked at have words of their own.
use Rattle.std.proofs.Common.{◌≡◌, ℕ, suc, ◌+◌, ◌-◌, ◌*◌, ◌%◌, ◌<◌, ◌≤◌, ◌≢◌, ◌⊎◌, List, [], ◌∷◌, ◌++◌, length, get_or, ℤ, pos, sym, refl, ap, ◌∙◌, subst, inl, inr, ⊎_elim, suc-mul, arith}
use Rattle.std.proofs.lemmas.Nat.{mul-le}
use borrow.Rule.Slice.PartMut.{put_mid}
use Rattle.std.proofs.lemmas.List.{length-append, length-take, length-drop, get_or_append_left, places}
use Rattle.std.proofs.lemmas.Bool.{cases_eq, cases_lt, le-leb, lt-leb}
use Rattle.deals.specs.Contract.{Day, no_day, value, rate}
use Rattle.fixings.specs.Fixings.{slot, HoldsRates}

-- a day's words end where the next one's begin, at the latest
pub row_end : (q p n : ℕ) → q < p → q * n + n ≤ p * n
row_end q p n lt = omega (arith, suc-mul q n, mul-le (suc q) n p n lt (omega arith))

slot_apart : (q p n l : ℕ) → q ≢ p → l < n → (p * n + l < q * n) ⊎ (q * n + n ≤ p * n + l)
slot_apart q p n l ne few = ⊎_elim (λ lt. inr (omega (arith, row_end q p n lt))) (λ le. inl (omega (arith, row_end p q n (omega arith)))) (cases_lt q p)

getD_last : (ds : List Day) (d : Day) → get_or (ds ++ d ∷ []) (length ds) no_day ≡ d
getD_last [] d = refl
getD_last (x ∷ ds) d = getD_last ds d

-- one more day
pub one_more_day : (words words' : List ℤ) (n : ℕ) (ds : List Day) (d : Day) → length words' ≡ length words → ((k : ℕ) → k < n → get_or words' (length ds % 4097 * n + k) (pos 0) ≡ get_or d.rates k (pos 0)) →
    ((i : ℕ) → (i < length ds % 4097 * n) ⊎ (length ds % 4097 * n + n ≤ i) → get_or words' i (pos 0) ≡ get_or words i (pos 0)) → HoldsRates words n ds → HoldsRates words' n (ds ++ d ∷ [])
one_more_day words words' n ds d same new old h =
    record {
      long = omega (arith, h.long);
      rates = λ e k below late few.
          ⊎_elim
          (λ is. subst (λ z. get_or words' (slot n z k) (pos 0) ≡ get_or (get_or (ds ++ d ∷ []) z no_day).rates k (pos 0)) (sym is) (new k few ∙ ap (λ z. get_or z.rates k (pos 0)) (sym (getD_last ds d))))
          (λ ne.
          let early : e < length ds = omega (arith, length-append ds (d ∷ [])) in
          let apart : length ds % 4097 ≢ e % 4097 = λ z. omega (arith, length-append ds (d ∷ [])) in
          old (slot n e k) (slot_apart (length ds % 4097) (e % 4097) n k apart few)
          ∙ h.rates e k early (omega (arith, length-append ds (d ∷ []))) few
          ∙ ap (λ z. get_or z.rates k (pos 0)) (sym (get_or_append_left ds (d ∷ []) no_day e early)))
          (cases_eq e (length ds));
    }

-- a rate of some days before
pub rate_before : (words : List ℤ) (n : ℕ) (ds : List Day) (t k b : ℕ) → length ds ≡ t + 1 → k < n → b ≤ 4096 → b ≤ t → HoldsRates words n ds → get_or words (slot n (t - b) k) (pos 0) ≡ value ds t (rate k b)
unfolding value
rate_before words n ds t k b many few near past h = rw (le-leb b t past) (h.rates (t - b) k (omega arith) (omega arith) few)

pub rate_none : (ds : List Day) (t k b : ℕ) → t < b → pos 0 ≡ value ds t (rate k b)
unfolding value
rate_none ds t k b lt = rw (lt-leb b t lt)

-- some words written over those from a place on
module _ (words rates : List ℤ) (first many : ℕ) (long : length rates ≡ many) (within : first + many ≤ length words) where
  pub put_length : length (put_mid first many words rates) ≡ length words
  put_length = simp (length-append, length-take, length-drop) (omega arith)

  pub put_there : (k : ℕ) → k < many → get_or (put_mid first many words rates) (first + k) (pos 0) ≡ get_or rates k (pos 0)
  put_there k lt = grind (arith, places)

  pub put_apart : (i : ℕ) → (i < first) ⊎ (first + many ≤ i) → get_or (put_mid first many words rates) i (pos 0) ≡ get_or words i (pos 0)
  put_apart i apart = grind (arith, places)
