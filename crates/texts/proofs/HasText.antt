-- Every contract has a text. Assumes nothing.
use Rattle.std.proofs.Common.{◌≡◌, ℕ, zero, suc, ◌+◌, ◌-◌, ◌*◌, ◌<◌, true, List, [], ◌∷◌, map, length, get_or, ℤ, pos, negsuc, codes, sym, refl, ap, ◌∙◌, inl, inr, arith}
use Rattle.std.specs.Int.Digits.{digits_of, AllBelowBase, number_from_digits_after}
use Rattle.std.proofs.lemmas.Int.Digits.{all_below_base_digits_of, first_digits_of, number_digits_of}
use Rattle.std.proofs.lemmas.Bool.{and_from}
use Rattle.std.proofs.lemmas.Bool.Decides.{nat_tests}
use Rattle.deals.specs.Contract.{Figure, fixed, rate, day, plus, minus, times, most, less, nothing, pays, turned, both, choice, either, scaled, on_day, when, by_day}
use Rattle.texts.specs.Text.{digit, digits, spelt, Number, Amount, Rate, FigureText}
use Rattle.texts.specs.Written.{written_number, written_amount, written_rate, written_figure, written, HasText, ReadAgain}
use Rattle.texts.proofs.FigureParts.{some_number}

abbrev shown : List ℕ → List ℕ
shown ds = map (λ d. 48 + d) ds

shown_digits : (ds : List ℕ) → AllBelowBase 10 ds → digits (shown ds) ≡ true
shown_digits [] u = refl
shown_digits (d ∷ ds) (h, u) = and_from (digit (48 + d)) (digits (shown ds)) (grind (arith, nat_tests)) (shown_digits ds u)

shown_worth : (n : ℕ) (ds : List ℕ) → spelt n (shown ds) ≡ number_from_digits_after 10 n ds
shown_worth n [] = refl
shown_worth n (d ∷ ds) = let same : 48 + d - 48 ≡ d = omega arith in ap (λ m. spelt (n * 10 + m) (shown ds)) same ∙ shown_worth (n * 10 + d) ds

shown_first : (ds : List ℕ) → 0 < get_or ds 0 0 → (0 < length (shown ds)) × (get_or (shown ds) 0 0 ≡ 48 → ⊥)
shown_first [] h = absurd (omega arith)
shown_first (d ∷ ds) h = (omega arith, λ e. omega arith)

number_text : (n : ℕ) → Number n (written_number n)
number_text zero = some_number
number_text (suc n) =
    let ds = digits_of 10 (suc n) in
    let first = shown_first ds (first_digits_of 10 (suc n) (omega arith) (omega arith)) in
    record {
      some = first.0;
      plain = shown_digits ds (all_below_base_digits_of 10 (suc n) (omega arith));
      lead = λ e. absurd (first.1 e);
      worth = shown_worth 0 ds ∙ number_digits_of 10 (suc n) (omega arith);
    }

amount_text : (a : ℤ) → Amount a (written_amount a)
amount_text (pos n) = number_text n
amount_text (negsuc n) = (codes "-", written_number (suc n), refl, number_text (suc n), refl)

rate_text : (k n : ℕ) → Rate k n (written_rate k n)
rate_text k zero = inr (refl, (codes "rate ", written_number k, refl, number_text k, refl))
rate_text k (suc n) = inl (codes "rate ", _, refl, (written_number k, _, number_text k, (codes " ", written_number (suc n), refl, number_text (suc n), refl), refl), refl)

figure_text : (e : Figure) → FigureText e (written_figure e)
figure_text (fixed a) = amount_text a
figure_text (rate k n) = rate_text k n
figure_text day = refl
figure_text (plus e f) = (codes "(", _, refl, (written_figure e, _, figure_text e, (codes " + ", _, refl, (written_figure f, codes ")", figure_text f, refl, refl), refl), refl), refl)
figure_text (minus e f) = (codes "(", _, refl, (written_figure e, _, figure_text e, (codes " - ", _, refl, (written_figure f, codes ")", figure_text f, refl, refl), refl), refl), refl)
figure_text (times e f) = (codes "(", _, refl, (written_figure e, _, figure_text e, (codes " * ", _, refl, (written_figure f, codes ")", figure_text f, refl, refl), refl), refl), refl)
figure_text (most e f) = (codes "max(", _, refl, (written_figure e, _, figure_text e, (codes ", ", _, refl, (written_figure f, codes ")", figure_text f, refl, refl), refl), refl), refl)
figure_text (less e f) = (codes "(", _, refl, (written_figure e, _, figure_text e, (codes " < ", _, refl, (written_figure f, codes ")", figure_text f, refl, refl), refl), refl), refl)

pub has_text : HasText
has_text nothing = refl
has_text (pays k a) = (codes "pays ", _, refl, (written_amount a, _, amount_text a, (codes " ", written_number k, refl, number_text k, refl), refl), refl)
has_text (turned x) = (codes "turned(", _, refl, (written x, codes ")", has_text x, refl, refl), refl)
has_text (both x y) = (codes "both(", _, refl, (written x, _, has_text x, (codes ", ", _, refl, (written y, codes ")", has_text y, refl, refl), refl), refl), refl)
has_text (choice x y) = (codes "choice(", _, refl, (written x, _, has_text x, (codes ", ", _, refl, (written y, codes ")", has_text y, refl, refl), refl), refl), refl)
has_text (either e x y) = (codes "if ", _, refl, (written_figure e, _, figure_text e, (codes " then ", _, refl, (written x, _, has_text x, (codes " else ", written y, refl, has_text y, refl), refl), refl), refl), refl)
has_text (scaled e x) = (written_figure e, _, figure_text e, (codes " of ", written x, refl, has_text x, refl), refl)
has_text (on_day d x) = (codes "on ", _, refl, (written_number d, _, number_text d, (codes ": ", written x, refl, has_text x, refl), refl), refl)
has_text (when e x) = (codes "when ", _, refl, (written_figure e, _, figure_text e, (codes ": ", written x, refl, has_text x, refl), refl), refl)
has_text (by_day d x) = (codes "by ", _, refl, (written_number d, _, number_text d, (codes ": ", written x, refl, has_text x, refl), refl), refl)

pub read_again : ReadAgain
read_again = (λ x place r. r.none x (has_text x), λ x y t r. sym (r.only x (has_text x)))
