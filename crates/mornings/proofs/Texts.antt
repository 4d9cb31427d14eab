-- The verdict on a text, by what the reader of texts says of its bytes. Assumes nothing.
use Rattle.std.proofs.Common.{◌≡◌, ℕ, ◌+◌, ◌-◌, ◌<◌, ◌≤◌, true, false, List, [], length, take, drop, sym, ap, ◌∙◌, subst, arith, length-drop, length-take}
use Rattle.std.proofs.lemmas.List.{append-nil, take_all, take_rest}
use Rattle.deals.specs.Contract.{Contract}
use Rattle.deals.specs.Promise.{marks, ContractFits}
use Rattle.octets.specs.Octets.{field}
use Rattle.texts.specs.Text.{Text, GoesOn, RefusedAt}
use Rattle.texts.specs.Bounds.{TextTaken, TextRefused, too_long, no_contract, past_limits, out_of_range, PartRefused}
use Rattle.texts.specs.declared.reading.TextRefusal.{TextRefusal}
use Rattle.texts.specs.declared.reading.TextRefusal.TheVariants.{NoContract, Limit}
use Rattle.texts.specs.Stages.{built_at}
use Rattle.texts.specs.declared.stages.Stage.{Stage}
use Rattle.mornings.specs.Verdict.{Fault, fault, taken, refused}
use Rattle.mornings.specs.Judgement.{TextRead, no_text, not_built, a_contract, cut_off, cut_short}
use Rattle.mornings.specs.declared.Start.{Start}

pub text_goes_on : (x : Contract) (w : List ℕ) → Text x w → GoesOn w
unfolding GoesOn
text_goes_on x w t = (x, [], subst (Text x) (sym (append-nil w)) t)

-- a contract whose text is taken has few marks
pub few_marks : (rs cs : ℕ) (w : List ℕ) (x : Contract) → TextTaken rs cs w x → marks x ≤ 256
unfolding ContractFits
few_marks rs cs w x t = t.fits.1

-- a refusal with 1 is of no contract's text
pub is_refused_at : (rs cs : ℕ) (w : List ℕ) (k p : ℕ) → TextRefused rs cs w k p → k ≡ 1 → RefusedAt w p
is_refused_at rs cs w _ _ (too_long h) e = let z : ⊥ = omega arith in absurd z
is_refused_at rs cs w _ p (no_contract h r) e = r
is_refused_at rs cs w _ _ (past_limits x h t o) e = let z : ⊥ = omega arith in absurd z
is_refused_at rs cs w _ _ (out_of_range x ns h t i n o) e = let z : ⊥ = omega arith in absurd z

-- and others are 2
pub one_or_two : (rs cs : ℕ) (w : List ℕ) (k p : ℕ) → TextRefused rs cs w k p → k ≡ 3 → ⊥
one_or_two rs cs w _ _ (too_long h) e = omega arith
one_or_two rs cs w _ _ (no_contract h r) e = omega arith
one_or_two rs cs w _ _ (past_limits x h t o) e = omega arith
one_or_two rs cs w _ _ (out_of_range x ns h t i n o) e = omega arith

-- a text that is not too long and refused with 2 is some contract's
goes_on_past : (rs cs : ℕ) (w : List ℕ) (k p : ℕ) → length w ≤ 8192 → TextRefused rs cs w k p → k ≡ 2 → GoesOn w
goes_on_past rs cs w _ _ small (too_long h) e = let z : ⊥ = omega arith in absurd z
goes_on_past rs cs w _ _ small (no_contract h r) e = let z : ⊥ = omega arith in absurd z
goes_on_past rs cs w _ _ small (past_limits x h t o) e = text_goes_on x w t
goes_on_past rs cs w _ _ small (out_of_range x ns h t i n o) e = text_goes_on x w t

module _ (stage : Stage) (st : Start) (n : ℕ) (s : List ℕ) (i : ℕ) (short : n ≤ 8192) where
  part : take (i + n - i) (drop i s) ≡ field n s i
  part = let e : i + n - i ≡ n = omega arith in ap (λ m. take m (drop i s)) e

  -- the refusal of a text that is there
  pub is_no_text : (k p q : ℕ) (f : Fault) → i + n ≤ length s → TextRefused st.rates st.currencies (take (i + n - i) (drop i s)) k p → q ≡ i + p → f ≡ fault k q → TextRead stage st n s i (refused f)
  is_no_text k p q f h r e same =
      subst (λ g. TextRead stage st n s i (refused g)) (sym (same ∙ ap (fault k) e)) (no_text short h (subst (λ w. TextRefused st.rates st.currencies w k p) part r))

  pub is_contract : (x : Contract) → i + n ≤ length s → TextTaken st.rates st.currencies (take (i + n - i) (drop i s)) x → built_at stage x ≡ true → TextRead stage st n s i (taken x (i + n))
  is_contract x h t b = a_contract x short h (subst (λ w. TextTaken st.rates st.currencies w x) part t) b

  pub is_not_built : (x : Contract) → i + n ≤ length s → TextTaken st.rates st.currencies (take (i + n - i) (drop i s)) x → built_at stage x ≡ false → TextRead stage st n s i (refused (fault 1 i))
  is_not_built x h t b = not_built short h (subst (λ w. TextTaken st.rates st.currencies w x) part t) b

  module _ (past : length s < i + n) (within : i ≤ length s) where
    rest_short : length (take (length s - i) (drop i s)) ≤ 8192
    rest_short = omega (arith, length-take (length s - i) (drop i s))

    -- it goes on so up to the end
    pub is_short : (x : Contract) → TextTaken st.rates st.currencies (take (length s - i) (drop i s)) x → TextRead stage st n s i (refused (fault 3 (length s)))
    is_short x t = cut_short short past (subst GoesOn (take_rest s i) (text_goes_on x _ t.text_of))

    pub is_past : (e : TextRefusal) (p : ℕ) → e ≡ Limit p → PartRefused st.rates st.currencies (take (length s - i) (drop i s)) i e → TextRead stage st n s i (refused (fault 3 (length s)))
    is_past e p same h =
        let r = subst (PartRefused st.rates st.currencies (take (length s - i) (drop i s)) i) same h in
        cut_short short past (subst GoesOn (take_rest s i) (goes_on_past st.rates st.currencies _ 2 r.0 rest_short r.1 (omega arith)))

    -- refused at a byte that is there
    pub is_off : (e : TextRefusal) (p : ℕ) → e ≡ NoContract p → PartRefused st.rates st.currencies (take (length s - i) (drop i s)) i e → p < length s → TextRead stage st n s i (refused (fault 1 p))
    is_off e p same h lt =
        let r = subst (PartRefused st.rates st.currencies (take (length s - i) (drop i s)) i) same h in
        let at : RefusedAt (drop i s) r.0 = subst (λ w. RefusedAt w r.0) (take_rest s i) (is_refused_at st.rates st.currencies _ 1 r.0 r.1 (omega arith)) in
        subst (λ z. TextRead stage st n s i (refused (fault 1 z))) (sym r.2) (cut_off short past at (omega (arith, r.2)))

    -- refused only for what is missing behind the end
    pub is_end : (e : TextRefusal) (p : ℕ) → e ≡ NoContract p → PartRefused st.rates st.currencies (take (length s - i) (drop i s)) i e → length s ≤ p → TextRead stage st n s i (refused (fault 3 (length s)))
    is_end e p same h le =
        let r = subst (PartRefused st.rates st.currencies (take (length s - i) (drop i s)) i) same h in
        let all : length (drop i s) ≤ r.0 = omega (arith, length-drop i s, r.2) in
        let at = is_refused_at st.rates st.currencies _ 1 r.0 r.1 (omega arith) in
        cut_short short past (subst GoesOn (ap (take r.0) (take_rest s i) ∙ take_all r.0 (drop i s) all) at.so_far)
