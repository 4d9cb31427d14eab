-- A text gets one verdict at most, and every contract in bounds has a text that is taken. Assumes nothing.
use Rattle.std.proofs.Common.{◌≡◌, ℕ, zero, suc, ◌+◌, ◌-◌, ◌*◌, ◌^◌, ◌<◌, ◌≤◌, ◌⊎◌, List, [], ◌∷◌, ◌++◌, length, take, drop, ℤ, pos, negsuc, codes, sym, refl, ap, ◌∙◌, subst, inl, inr, append_assoc, arith, length-append, take-add}
use Rattle.std.proofs.lemmas.Bool.{cases_lt}
use Rattle.deals.specs.Contract.{Figure, fixed, rate, day, plus, minus, times, most, less, Contract, nothing, pays, turned, both, choice, either, scaled, on_day, when, by_day}
use Rattle.deals.specs.Promise.{size, marks, figure_marks, FigureFits, PartsFit, ContractFits}
use Rattle.texts.specs.Text.{Text, GoesOn, RefusedAt}
use Rattle.texts.specs.Written.{written_number, written_amount, written_rate, written_figure, written}
use Rattle.texts.specs.Bounds.{Numeral, ContractNumerals, InRange, FirstOut, IsWithinLimits, TextTaken, TextRefused, too_long, no_contract, past_limits, out_of_range, OneVerdict, HasTaken}
use Rattle.texts.proofs.HasText.{has_text}
use Rattle.texts.proofs.OneContract.{one_at_most}
use Rattle.texts.proofs.OneReading.{contract_once}
use Rattle.texts.proofs.Ranged.{fits_by_text, parts_within}
use Rattle.texts.proofs.WithinLimits.{size_is}
use Rattle.texts.proofs.Laying.{number_length}

first_once : (ns : List Numeral) (p q : ℕ) → FirstOut ns p → FirstOut ns q → p ≡ q
unfolding FirstOut
first_once [] p q h k = absurd h
first_once (n ∷ ns) p q (inl h) (inl k) = h.1 ∙ sym k.1
first_once (n ∷ ns) p q (inl h) (inr k) = absurd (omega arith)
first_once (n ∷ ns) p q (inr h) (inl k) = absurd (omega arith)
first_once (n ∷ ns) p q (inr h) (inr k) = first_once ns p q h.1 k.1

not_both : (ns : List Numeral) (p : ℕ) → InRange ns → FirstOut ns p → ⊥
unfolding InRange FirstOut
not_both [] p h k = k
not_both (n ∷ ns) p h (inl k) = omega arith
not_both (n ∷ ns) p h (inr k) = not_both ns p h.1 k.1

-- what begins a text that goes on goes on
goes_shorter : (text : List ℕ) (m n : ℕ) → m ≤ n → GoesOn (take n text) → GoesOn (take m text)
unfolding GoesOn
goes_shorter text m n le (x, t, h) =
    let same : m + (n - m) ≡ n = omega arith in
    let cut : take n text ≡ take m text ++ take (n - m) (drop m text) = ap (λ k. take k text) (sym same) ∙ take-add m (n - m) text in
    (x, take (n - m) (drop m text) ++ t, subst (Text x) (ap (λ z. z ++ t) cut ∙ append_assoc (take m text) (take (n - m) (drop m text)) t) h)

one_place : (text : List ℕ) (p q : ℕ) → RefusedAt text p → RefusedAt text q → p ≡ q
one_place text p q r s = by (cases_lt p q) (cases_lt q p)
  where
    by : (p < q) ⊎ (q ≤ p) → (q < p) ⊎ (p ≤ q) → p ≡ q
    by (inl l) _ = let w = s.within in absurd (r.no_more (omega arith) (goes_shorter text (suc p) q (omega arith) s.so_far))
    by (inr l) (inl k) = let w = r.within in absurd (s.no_more (omega arith) (goes_shorter text (suc q) p (omega arith) r.so_far))
    by (inr l) (inr k) = omega arith

refused_once : (rs cs : ℕ) (text : List ℕ) (n m p q : ℕ) → TextRefused rs cs text n p → TextRefused rs cs text m q → (n ≡ m) × (p ≡ q)
refused_once rs cs text n m p q (too_long l) (too_long k) = (refl, refl)
refused_once rs cs text n m p q (too_long l) (no_contract k r) = absurd (omega arith)
refused_once rs cs text n m p q (too_long l) (past_limits x k t w) = absurd (omega arith)
refused_once rs cs text n m p q (too_long l) (out_of_range x ns k t w h o) = absurd (omega arith)
refused_once rs cs text n m p q (no_contract l r) (too_long k) = absurd (omega arith)
refused_once rs cs text n m p q (no_contract l r) (no_contract k s) = (refl, one_place text p q r s)
refused_once rs cs text n m p q (no_contract l r) (past_limits x k t w) = absurd (r.none x t)
refused_once rs cs text n m p q (no_contract l r) (out_of_range x ns k t w h o) = absurd (r.none x t)
refused_once rs cs text n m p q (past_limits y l u v) (too_long k) = absurd (omega arith)
refused_once rs cs text n m p q (past_limits y l u v) (no_contract k s) = absurd (s.none y u)
refused_once rs cs text n m p q (past_limits y l u v) (past_limits x k t w) = (refl, refl)
refused_once rs cs text n m p q (past_limits y l u v) (out_of_range x ns k t w h o) = absurd (v (subst IsWithinLimits (one_at_most text y x u t) w))
refused_once rs cs text n m p q (out_of_range y ms l u v g i) (too_long k) = absurd (omega arith)
refused_once rs cs text n m p q (out_of_range y ms l u v g i) (no_contract k s) = absurd (s.none y u)
refused_once rs cs text n m p q (out_of_range y ms l u v g i) (past_limits x k t w) = absurd (w (subst IsWithinLimits (one_at_most text x y t u) v))
refused_once rs cs text n m p q (out_of_range y ms l u v g i) (out_of_range x ns k t w h o) =
    let same : x ≡ y = one_at_most text y x u t in
    let numbers : ns ≡ ms = (contract_once rs cs y).so text ns ms (subst (λ z. ContractNumerals rs cs z text ns) same h) g in
    (refl, first_once ms p q i (subst (λ z. FirstOut z q) numbers o))

within : (rs cs : ℕ) (x : Contract) → ContractFits rs cs x → IsWithinLimits x
unfolding ContractFits
within rs cs x f = record { few = f.1; flat = f.2; small = parts_within rs cs x f.0 }

taken_refused : (rs cs : ℕ) (text : List ℕ) (x : Contract) (n p : ℕ) → TextTaken rs cs text x → TextRefused rs cs text n p → ⊥
unfolding ContractFits
taken_refused rs cs text x n p t (too_long l) = let s = t.short in omega arith
taken_refused rs cs text x n p t (no_contract l r) = r.none x t.text_of
taken_refused rs cs text x n p t (past_limits y l u v) =
    v (within rs cs y (subst (ContractFits rs cs) (one_at_most text y x u t.text_of) t.fits))
taken_refused rs cs text x n p t (out_of_range y ns l u v g o) =
    let fits = subst (ContractFits rs cs) (one_at_most text y x u t.text_of) t.fits in
    not_both ns p ((fits_by_text rs cs y text ns g).1 fits).1 o

pub one_verdict : OneVerdict
one_verdict = (λ rs cs text x y t u. one_at_most text x y t.text_of u.text_of, refused_once, taken_refused)

-- LENGTHS
amount_short : (a : ℤ) (k : ℕ) → size a < 10 ^ k → 1 ≤ k → length (written_amount a) ≤ suc k
amount_short (pos n) k h l = let m = number_length n k (omega (arith, size_is (pos n))) l in omega arith
amount_short (negsuc n) k h l = let m = number_length (suc n) k (omega (arith, size_is (negsuc n))) l in omega arith

rate_short : (k n : ℕ) → k < 256 → n ≤ 4096 → length (written_rate k n) ≤ 22
rate_short k zero h l = let m = number_length k 3 (omega arith) (omega arith) in omega arith
rate_short k (suc n) h l =
    let m = number_length k 3 (omega arith) (omega arith) in
    let o = number_length (suc n) 4 (omega arith) (omega arith) in
    omega (arith, length-append (written_number k) (codes " " ++ written_number (suc n)))

figure_short : (rs : ℕ) (e : Figure) → rs ≤ 256 → FigureFits rs e → length (written_figure e) ≤ 22 * figure_marks e
unfolding FigureFits figure_marks
figure_short rs (fixed a) r h = let l = amount_short a 10 (omega arith) (omega arith) in omega arith
figure_short rs (rate k n) r h = rate_short k n (omega arith) h.1
figure_short rs day r h = omega arith
figure_short rs (plus e f) r h =
    omega (arith, figure_short rs e r h.0, figure_short rs f r h.1, length-append (written_figure e) (codes " + " ++ (written_figure f ++ codes ")")), length-append (written_figure f) (codes ")"))
figure_short rs (minus e f) r h =
    omega (arith, figure_short rs e r h.0, figure_short rs f r h.1, length-append (written_figure e) (codes " - " ++ (written_figure f ++ codes ")")), length-append (written_figure f) (codes ")"))
figure_short rs (times e f) r h =
    omega (arith, figure_short rs e r h.0, figure_short rs f r h.1, length-append (written_figure e) (codes " * " ++ (written_figure f ++ codes ")")), length-append (written_figure f) (codes ")"))
figure_short rs (most e f) r h =
    omega (arith, figure_short rs e r h.0, figure_short rs f r h.1, length-append (written_figure e) (codes ", " ++ (written_figure f ++ codes ")")), length-append (written_figure f) (codes ")"))
figure_short rs (less e f) r h =
    omega (arith, figure_short rs e r h.0, figure_short rs f r h.1, length-append (written_figure e) (codes " < " ++ (written_figure f ++ codes ")")), length-append (written_figure f) (codes ")"))

text_short : (rs cs : ℕ) (x : Contract) → rs ≤ 256 → cs ≤ 64 → PartsFit rs cs x → length (written x) ≤ 22 * marks x
unfolding PartsFit marks
text_short rs cs nothing r c h = omega arith
text_short rs cs (pays k a) r c h =
    let m = amount_short a 13 (omega arith) (omega arith) in
    let o = number_length k 2 (omega arith) (omega arith) in
    omega (arith, length-append (written_amount a) (codes " " ++ written_number k))
text_short rs cs (turned x) r c h = omega (arith, text_short rs cs x r c h, length-append (written x) (codes ")"))
text_short rs cs (both x y) r c h =
    omega (arith, text_short rs cs x r c h.0, text_short rs cs y r c h.1, length-append (written x) (codes ", " ++ (written y ++ codes ")")), length-append (written y) (codes ")"))
text_short rs cs (choice x y) r c h =
    omega (arith, text_short rs cs x r c h.0, text_short rs cs y r c h.1, length-append (written x) (codes ", " ++ (written y ++ codes ")")), length-append (written y) (codes ")"))
text_short rs cs (either e x y) r c h =
    omega (
      arith,
      figure_short rs e r h.0,
      text_short rs cs x r c h.1,
      text_short rs cs y r c h.2,
      length-append (written_figure e) (codes " then " ++ (written x ++ (codes " else " ++ written y))),
      length-append (written x) (codes " else " ++ written y),
    )
text_short rs cs (scaled e x) r c h = omega (arith, figure_short rs e r h.0, text_short rs cs x r c h.1, length-append (written_figure e) (codes " of " ++ written x))
text_short rs cs (on_day d x) r c h =
    let m = number_length d 5 (omega arith) (omega arith) in
    omega (arith, text_short rs cs x r c h.1, length-append (written_number d) (codes ": " ++ written x))
text_short rs cs (when e x) r c h = omega (arith, figure_short rs e r h.0, text_short rs cs x r c h.1, length-append (written_figure e) (codes ": " ++ written x))
text_short rs cs (by_day d x) r c h =
    let m = number_length d 5 (omega arith) (omega arith) in
    omega (arith, text_short rs cs x r c h.1, length-append (written_number d) (codes ": " ++ written x))

pub has_taken : HasTaken
unfolding ContractFits
has_taken rs cs x r c f =
    let short = text_short rs cs x r c f.0 in
    (record { short = let few = f.1 in omega arith; text_of = has_text x; fits = f }, short)
