-- What the readers of contracts promise. Assumes nothing.
use Rattle.std.proofs.lemmas.Bool.{false≢true, and_parts}
use Rattle.std.proofs.Common.{◌≡◌, ℕ, ◌+◌, ◌≤◌, Bool, true, ◌&&◌, ◌||◌, eqb, List, [], ◌∷◌, ◌++◌, length, ℤ, codes, sym, refl, ap, ◌∙◌, append_assoc, length-append, arith, eqb-true}
use Rattle.std.proofs.lemmas.List.Edits.{length-between}
use Rattle.deals.specs.Contract.{Figure, fixed, rate, day, plus, minus, times, most, less, Contract, nothing, pays, turned, both, choice, either, scaled, on_day, when, by_day}
use Rattle.texts.specs.Text.{Language, exactly, ◌then◌, digit, Number, Amount, FigureText, Text}
use Rattle.texts.specs.Reading.{byte_at, Any, NoDigit, Word, Took, Stops}
use Rattle.texts.specs.Figures.{Ended}
use Rattle.texts.specs.Openings.{PairText, DayColon}
use Rattle.texts.proofs.Parts.{Pair, HasOne, took_as, stops_as, stops_past}
use Rattle.texts.proofs.Thens.{then_right, then_left, then_map, with_end, without_end}
use Rattle.texts.proofs.RateEnd.{SameBytes, at_first}
use Rattle.texts.proofs.FigureParts.{some_number, led, starts, figure_starts}

-- which bytes a figure, and which two a contract may begin with
abbrev pub figure_head : ℕ → Bool
figure_head b = digit b || (eqb b 45 || (eqb b 114 || (eqb b 100 || (eqb b 40 || eqb b 109))))

pub figure_heads : (e : Figure) (b : ℕ) → starts e b ≡ true → figure_head b ≡ true
figure_heads (fixed a) b h = grind arith
figure_heads (rate k n) b h = grind arith
figure_heads day b h = grind arith
figure_heads (plus e f) b h = grind arith
figure_heads (minus e f) b h = grind arith
figure_heads (times e f) b h = grind arith
figure_heads (most e f) b h = grind arith
figure_heads (less e f) b h = grind arith

abbrev heads : Contract → ℕ → ℕ → Bool
heads nothing b c = eqb b 110
heads (pays k a) b c = eqb b 112
heads (turned x) b c = eqb b 116
heads (both x y) b c = eqb b 98 && eqb c 111
heads (choice x y) b c = eqb b 99
heads (either e x y) b c = eqb b 105
heads (scaled e x) b c = figure_head b
heads (on_day d x) b c = eqb b 111
heads (when e x) b c = eqb b 119
heads (by_day d x) b c = eqb b 98 && eqb c 121

text_heads : (y : Contract) (w k : List ℕ) → Text y w → heads y (byte_at (w ++ k) 0) (byte_at (w ++ k) 1) ≡ true
text_heads nothing w k t = ap (λ z. heads nothing (byte_at (z ++ k) 0) (byte_at (z ++ k) 1)) t
text_heads (pays j a) w k t = ap (λ v. heads (pays j a) (byte_at v 0) (byte_at v 1)) (led (codes "pays ") w k _ t).1
text_heads (turned x) w k t = ap (λ v. heads (turned x) (byte_at v 0) (byte_at v 1)) (led (codes "turned(") w k _ t).1
text_heads (both x z) w k t = ap (λ v. heads (both x z) (byte_at v 0) (byte_at v 1)) (led (codes "both(") w k _ t).1
text_heads (choice x z) w k t = ap (λ v. heads (choice x z) (byte_at v 0) (byte_at v 1)) (led (codes "choice(") w k _ t).1
text_heads (either e x z) w k t = ap (λ v. heads (either e x z) (byte_at v 0) (byte_at v 1)) (led (codes "if ") w k _ t).1
text_heads (scaled e x) w k t =
    figure_heads e (byte_at (w ++ k) 0) (ap (λ z. starts e (byte_at z 0)) (ap (λ z. z ++ k) (sym t.4) ∙ append_assoc t.0 t.1 k) ∙ figure_starts e t.0 (t.1 ++ k) t.2)
text_heads (on_day d x) w k t = ap (λ v. heads (on_day d x) (byte_at v 0) (byte_at v 1)) (led (codes "on ") w k _ t).1
text_heads (when e x) w k t = ap (λ v. heads (when e x) (byte_at v 0) (byte_at v 1)) (led (codes "when ") w k _ t).1
text_heads (by_day d x) w k t = ap (λ v. heads (by_day d x) (byte_at v 0) (byte_at v 1)) (led (codes "by ") w k _ t).1

-- a contract that stands where the text has this byte begins with it
begins_so : (y : Contract) (b : ℕ) (w k text : List ℕ) (at to : ℕ) → Text y w → at ≤ to → SameBytes (w ++ k) text at to → byte_at text at ≡ b → heads y b (byte_at (w ++ k) 1) ≡ true
begins_so y b w k text at to t le s opens = ap (λ z. heads y z (byte_at (w ++ k) 1)) (sym (at_first (w ++ k) text at to le s ∙ opens)) ∙ text_heads y w k t

-- nothing
module _ (text : List ℕ) (at : ℕ) (opens : byte_at text at ≡ 110) where
  abbrev pub NothingParts : Unit {0} → Language
  NothingParts = Word (codes "nothing")

  abbrev nothing_make : Unit {0} → Contract
  nothing_make p = nothing

  nothing_sound : (p : Unit {0}) (w : List ℕ) → NothingParts p w → Text (nothing_make p) w
  nothing_sound p w h = h

  nothing_back : (to : ℕ) → at ≤ to → (y : Contract) (w k : List ℕ) → Text y w → NoDigit k → SameBytes (w ++ k) text at to → (p : Unit {0}) × NothingParts p w × (nothing_make p ≡ y)
  nothing_back to le nothing w k t f s = (tt, t, refl)
  nothing_back to le (pays j a) w k t f s = absurd (false≢true (begins_so (pays j a) 110 w k text at to t le s opens))
  nothing_back to le (turned x) w k t f s = absurd (false≢true (begins_so (turned x) 110 w k text at to t le s opens))
  nothing_back to le (both x z) w k t f s = absurd (false≢true (begins_so (both x z) 110 w k text at to t le s opens))
  nothing_back to le (choice x z) w k t f s = absurd (false≢true (begins_so (choice x z) 110 w k text at to t le s opens))
  nothing_back to le (either e x z) w k t f s = absurd (false≢true (begins_so (either e x z) 110 w k text at to t le s opens))
  nothing_back to le (scaled e x) w k t f s = absurd (false≢true (begins_so (scaled e x) 110 w k text at to t le s opens))
  nothing_back to le (on_day d x) w k t f s = absurd (false≢true (begins_so (on_day d x) 110 w k text at to t le s opens))
  nothing_back to le (when e x) w k t f s = absurd (false≢true (begins_so (when e x) 110 w k text at to t le s opens))
  nothing_back to le (by_day d x) w k t f s = absurd (false≢true (begins_so (by_day d x) 110 w k text at to t le s opens))

  pub nothing_as : {to : ℕ} {p : Unit {0}} → Took NoDigit NothingParts text at to p → Took NoDigit Text text at to (nothing_make p)
  nothing_as {to} {p} t = took_as NoDigit NothingParts Text nothing_make nothing_sound text at to (nothing_back to t.forward) p t

  pub nothing_stops : {to : ℕ} → Stops NoDigit NothingParts text at to → Stops NoDigit Text text at to
  nothing_stops {to} t = stops_as NoDigit NothingParts Text nothing_make nothing_sound text at to (nothing_back to t.forward) t

-- so much of a currency
module _ (text : List ℕ) (at : ℕ) (opens : byte_at text at ≡ 112) where
  abbrev pub PaysParts : Unit {0} × (ℤ × (Unit {0} × ℕ)) → Language
  PaysParts = Pair (Word (codes "pays ")) (Pair Amount (Pair (Word (codes " ")) Number))

  abbrev pays_make : Unit {0} × (ℤ × (Unit {0} × ℕ)) → Contract
  pays_make p = pays p.1.1.1 p.1.0

  pays_sound : (p : Unit {0} × (ℤ × (Unit {0} × ℕ))) (w : List ℕ) → PaysParts p w → Text (pays_make p) w
  pays_sound p w h = h

  pays_back : (to : ℕ) → at ≤ to → (y : Contract) (w k : List ℕ) → Text y w → NoDigit k → SameBytes (w ++ k) text at to → (p : Unit {0} × (ℤ × (Unit {0} × ℕ))) × PaysParts p w × (pays_make p ≡ y)
  pays_back to le (pays j a) w k t f s = ((tt, (a, (tt, j))), t, refl)
  pays_back to le nothing w k t f s = absurd (false≢true (begins_so nothing 112 w k text at to t le s opens))
  pays_back to le (turned x) w k t f s = absurd (false≢true (begins_so (turned x) 112 w k text at to t le s opens))
  pays_back to le (both x z) w k t f s = absurd (false≢true (begins_so (both x z) 112 w k text at to t le s opens))
  pays_back to le (choice x z) w k t f s = absurd (false≢true (begins_so (choice x z) 112 w k text at to t le s opens))
  pays_back to le (either e x z) w k t f s = absurd (false≢true (begins_so (either e x z) 112 w k text at to t le s opens))
  pays_back to le (scaled e x) w k t f s = absurd (false≢true (begins_so (scaled e x) 112 w k text at to t le s opens))
  pays_back to le (on_day d x) w k t f s = absurd (false≢true (begins_so (on_day d x) 112 w k text at to t le s opens))
  pays_back to le (when e x) w k t f s = absurd (false≢true (begins_so (when e x) 112 w k text at to t le s opens))
  pays_back to le (by_day d x) w k t f s = absurd (false≢true (begins_so (by_day d x) 112 w k text at to t le s opens))

  pub pays_as : {to : ℕ} {p : Unit {0} × (ℤ × (Unit {0} × ℕ))} → Took NoDigit PaysParts text at to p → Took NoDigit Text text at to (pays_make p)
  pays_as {to} {p} t = took_as NoDigit PaysParts Text pays_make pays_sound text at to (pays_back to t.forward) p t

  pub pays_stops : {to : ℕ} → Stops NoDigit PaysParts text at to → Stops NoDigit Text text at to
  pays_stops {to} t = stops_as NoDigit PaysParts Text pays_make pays_sound text at to (pays_back to t.forward) t

-- the other way round
module _ (text : List ℕ) (at : ℕ) (opens : byte_at text at ≡ 116) where
  abbrev pub TurnedParts : Unit {0} × (Contract × Unit {0}) → Language
  TurnedParts = Pair (Word (codes "turned(")) (Pair Text (Word (codes ")")))

  abbrev turned_make : Unit {0} × (Contract × Unit {0}) → Contract
  turned_make p = turned p.1.0

  turned_sound : (p : Unit {0} × (Contract × Unit {0})) (w : List ℕ) → TurnedParts p w → Text (turned_make p) w
  turned_sound p w h = h

  turned_back : (to : ℕ) → at ≤ to → (y : Contract) (w k : List ℕ) → Text y w → NoDigit k → SameBytes (w ++ k) text at to → (p : Unit {0} × (Contract × Unit {0})) × TurnedParts p w × (turned_make p ≡ y)
  turned_back to le (turned x) w k t f s = ((tt, (x, tt)), t, refl)
  turned_back to le nothing w k t f s = absurd (false≢true (begins_so nothing 116 w k text at to t le s opens))
  turned_back to le (pays j a) w k t f s = absurd (false≢true (begins_so (pays j a) 116 w k text at to t le s opens))
  turned_back to le (both x z) w k t f s = absurd (false≢true (begins_so (both x z) 116 w k text at to t le s opens))
  turned_back to le (choice x z) w k t f s = absurd (false≢true (begins_so (choice x z) 116 w k text at to t le s opens))
  turned_back to le (either e x z) w k t f s = absurd (false≢true (begins_so (either e x z) 116 w k text at to t le s opens))
  turned_back to le (scaled e x) w k t f s = absurd (false≢true (begins_so (scaled e x) 116 w k text at to t le s opens))
  turned_back to le (on_day d x) w k t f s = absurd (false≢true (begins_so (on_day d x) 116 w k text at to t le s opens))
  turned_back to le (when e x) w k t f s = absurd (false≢true (begins_so (when e x) 116 w k text at to t le s opens))
  turned_back to le (by_day d x) w k t f s = absurd (false≢true (begins_so (by_day d x) 116 w k text at to t le s opens))

  pub turned_as : {to : ℕ} {p : Unit {0} × (Contract × Unit {0})} → Took NoDigit TurnedParts text at to p → Took NoDigit Text text at to (turned_make p)
  turned_as {to} {p} t = took_as NoDigit TurnedParts Text turned_make turned_sound text at to (turned_back to t.forward) p t

  pub turned_stops : {to : ℕ} → Stops NoDigit TurnedParts text at to → Stops NoDigit Text text at to
  turned_stops {to} t = stops_as NoDigit TurnedParts Text turned_make turned_sound text at to (turned_back to t.forward) t

-- two
module _ (text : List ℕ) (at : ℕ) (opens : (byte_at text at ≡ 98) × (byte_at text (at + 1) ≡ 121 → ⊥)) where
  both_back : (to : ℕ) → at + 1 ≤ to → (y : Contract) (w k : List ℕ) → Text y w → NoDigit k → SameBytes (w ++ k) text at to → (p : Contract × Contract) × PairText (codes "both(") p w × (both p.0 p.1 ≡ y)
  both_back to le (both x z) w k t f s = ((x, z), t, refl)
  both_back to le nothing w k t f s = absurd (false≢true (begins_so nothing 98 w k text at to t (omega arith) s opens.0))
  both_back to le (pays j a) w k t f s = absurd (false≢true (begins_so (pays j a) 98 w k text at to t (omega arith) s opens.0))
  both_back to le (turned x) w k t f s = absurd (false≢true (begins_so (turned x) 98 w k text at to t (omega arith) s opens.0))
  both_back to le (choice x z) w k t f s = absurd (false≢true (begins_so (choice x z) 98 w k text at to t (omega arith) s opens.0))
  both_back to le (either e x z) w k t f s = absurd (false≢true (begins_so (either e x z) 98 w k text at to t (omega arith) s opens.0))
  both_back to le (scaled e x) w k t f s = absurd (false≢true (begins_so (scaled e x) 98 w k text at to t (omega arith) s opens.0))
  both_back to le (on_day d x) w k t f s = absurd (false≢true (begins_so (on_day d x) 98 w k text at to t (omega arith) s opens.0))
  both_back to le (when e x) w k t f s = absurd (false≢true (begins_so (when e x) 98 w k text at to t (omega arith) s opens.0))
  both_back to le (by_day d x) w k t f s =
      absurd (opens.1 (sym (s 1 le) ∙ eqb-true (byte_at (w ++ k) 1) 121 (begins_so (by_day d x) 98 w k text at to t (omega arith) s opens.0)))

  pub both_as : {to : ℕ} {p : Contract × Contract} → at + 1 ≤ to → Took NoDigit (PairText (codes "both(")) text at to p → Took NoDigit Text text at to (both p.0 p.1)
  both_as {to} {p} past t = took_as NoDigit (PairText (codes "both(")) Text (λ p. both p.0 p.1) (λ _ _ h. h) text at to (both_back to past) p t

  pub both_stops : {to : ℕ} → at + 1 ≤ to → Stops NoDigit (PairText (codes "both(")) text at to → Stops NoDigit Text text at to
  both_stops {to} past t = stops_as NoDigit (PairText (codes "both(")) Text (λ p. both p.0 p.1) (λ _ _ h. h) text at to (both_back to past) t

-- one of two
module _ (text : List ℕ) (at : ℕ) (opens : byte_at text at ≡ 99) where
  choice_back : (to : ℕ) → at ≤ to → (y : Contract) (w k : List ℕ) → Text y w → NoDigit k → SameBytes (w ++ k) text at to → (p : Contract × Contract) × PairText (codes "choice(") p w × (choice p.0 p.1 ≡ y)
  choice_back to le (choice x z) w k t f s = ((x, z), t, refl)
  choice_back to le nothing w k t f s = absurd (false≢true (begins_so nothing 99 w k text at to t le s opens))
  choice_back to le (pays j a) w k t f s = absurd (false≢true (begins_so (pays j a) 99 w k text at to t le s opens))
  choice_back to le (turned x) w k t f s = absurd (false≢true (begins_so (turned x) 99 w k text at to t le s opens))
  choice_back to le (both x z) w k t f s = absurd (false≢true (begins_so (both x z) 99 w k text at to t le s opens))
  choice_back to le (either e x z) w k t f s = absurd (false≢true (begins_so (either e x z) 99 w k text at to t le s opens))
  choice_back to le (scaled e x) w k t f s = absurd (false≢true (begins_so (scaled e x) 99 w k text at to t le s opens))
  choice_back to le (on_day d x) w k t f s = absurd (false≢true (begins_so (on_day d x) 99 w k text at to t le s opens))
  choice_back to le (when e x) w k t f s = absurd (false≢true (begins_so (when e x) 99 w k text at to t le s opens))
  choice_back to le (by_day d x) w k t f s = absurd (false≢true (begins_so (by_day d x) 99 w k text at to t le s opens))

  pub choice_as : {to : ℕ} {p : Contract × Contract} → Took NoDigit (PairText (codes "choice(")) text at to p → Took NoDigit Text text at to (choice p.0 p.1)
  choice_as {to} {p} t = took_as NoDigit (PairText (codes "choice(")) Text (λ p. choice p.0 p.1) (λ _ _ h. h) text at to (choice_back to t.forward) p t

  pub choice_stops : {to : ℕ} → Stops NoDigit (PairText (codes "choice(")) text at to → Stops NoDigit Text text at to
  choice_stops {to} t = stops_as NoDigit (PairText (codes "choice(")) Text (λ p. choice p.0 p.1) (λ _ _ h. h) text at to (choice_back to t.forward) t

-- one or the other by a figure
module _ (text : List ℕ) (at : ℕ) (opens : byte_at text at ≡ 105) where
  abbrev pub EitherParts : Unit {0} × (Figure × (Unit {0} × (Contract × (Unit {0} × Contract)))) → Language
  EitherParts = Pair (Word (codes "if ")) (Pair (Ended 32) (Pair (Word (codes "then ")) (Pair Text (Pair (Word (codes " else ")) Text))))

  abbrev either_make : Unit {0} × (Figure × (Unit {0} × (Contract × (Unit {0} × Contract)))) → Contract
  either_make p = either p.1.0 p.1.1.1.0 p.1.1.1.1.1

  either_sound : (p : Unit {0} × (Figure × (Unit {0} × (Contract × (Unit {0} × Contract))))) (w : List ℕ) → EitherParts p w → Text (either_make p) w
  either_sound p w h = then_map (λ _ q. q) (without_end (FigureText p.1.0) (Text p.1.1.1.0 then exactly " else " then Text p.1.1.1.1.1) 32 (codes "then ")) w h

  either_back : (to : ℕ) → at ≤ to → (y : Contract) (w k : List ℕ) → Text y w → NoDigit k → SameBytes (w ++ k) text at to → (p : Unit {0} × (Figure × (Unit {0} × (Contract × (Unit {0} × Contract))))) × EitherParts p w × (either_make p ≡ y)
  either_back to le (either e x z) w k t f s = ((tt, (e, (tt, (x, (tt, z))))), then_map (λ _ q. q) (with_end (FigureText e) (Text x then exactly " else " then Text z) 32 (codes "then ")) w t, refl)
  either_back to le nothing w k t f s = absurd (false≢true (begins_so nothing 105 w k text at to t le s opens))
  either_back to le (pays j a) w k t f s = absurd (false≢true (begins_so (pays j a) 105 w k text at to t le s opens))
  either_back to le (turned x) w k t f s = absurd (false≢true (begins_so (turned x) 105 w k text at to t le s opens))
  either_back to le (both x z) w k t f s = absurd (false≢true (begins_so (both x z) 105 w k text at to t le s opens))
  either_back to le (choice x z) w k t f s = absurd (false≢true (begins_so (choice x z) 105 w k text at to t le s opens))
  either_back to le (scaled e x) w k t f s = absurd (false≢true (begins_so (scaled e x) 105 w k text at to t le s opens))
  either_back to le (on_day d x) w k t f s = absurd (false≢true (begins_so (on_day d x) 105 w k text at to t le s opens))
  either_back to le (when e x) w k t f s = absurd (false≢true (begins_so (when e x) 105 w k text at to t le s opens))
  either_back to le (by_day d x) w k t f s = absurd (false≢true (begins_so (by_day d x) 105 w k text at to t le s opens))

  pub either_as : {to : ℕ} {p : Unit {0} × (Figure × (Unit {0} × (Contract × (Unit {0} × Contract))))} → Took NoDigit EitherParts text at to p → Took NoDigit Text text at to (either_make p)
  either_as {to} {p} t = took_as NoDigit EitherParts Text either_make either_sound text at to (either_back to t.forward) p t

  pub either_stops : {to : ℕ} → Stops NoDigit EitherParts text at to → Stops NoDigit Text text at to
  either_stops {to} t = stops_as NoDigit EitherParts Text either_make either_sound text at to (either_back to t.forward) t

-- as much as a figure says
module _ (text : List ℕ) (at : ℕ) (opens : (byte_at text at ≡ 110 → ⊥) × (byte_at text at ≡ 112 → ⊥) × (byte_at text at ≡ 116 → ⊥) × (byte_at text at ≡ 98 → ⊥) × (byte_at text at ≡ 99 → ⊥) × (byte_at text at ≡ 105 → ⊥) × (byte_at text at ≡ 111 → ⊥) × (byte_at text at ≡ 119 → ⊥)) where
  abbrev pub ScaledParts : Figure × (Unit {0} × Contract) → Language
  ScaledParts = Pair (Ended 32) (Pair (Word (codes "of ")) Text)

  abbrev scaled_make : Figure × (Unit {0} × Contract) → Contract
  scaled_make p = scaled p.0 p.1.1

  scaled_sound : (p : Figure × (Unit {0} × Contract)) (w : List ℕ) → ScaledParts p w → Text (scaled_make p) w
  scaled_sound p w h = without_end (FigureText p.0) (Text p.1.1) 32 (codes "of ") w h

  scaled_back : (to : ℕ) → at ≤ to → (y : Contract) (w k : List ℕ) → Text y w → NoDigit k → SameBytes (w ++ k) text at to → (p : Figure × (Unit {0} × Contract)) × ScaledParts p w × (scaled_make p ≡ y)
  scaled_back to le (scaled e x) w k t f s = ((e, (tt, x)), with_end (FigureText e) (Text x) 32 (codes "of ") w t, refl)
  scaled_back to le nothing w k t f s = absurd (opens.0 (eqb-true (byte_at text at) 110 (begins_so nothing (byte_at text at) w k text at to t le s refl)))
  scaled_back to le (pays j a) w k t f s = absurd (opens.1 (eqb-true (byte_at text at) 112 (begins_so (pays j a) (byte_at text at) w k text at to t le s refl)))
  scaled_back to le (turned x) w k t f s = absurd (opens.2 (eqb-true (byte_at text at) 116 (begins_so (turned x) (byte_at text at) w k text at to t le s refl)))
  scaled_back to le (both x z) w k t f s = absurd (opens.3 (eqb-true (byte_at text at) 98 (and_parts (eqb (byte_at text at) 98) (eqb (byte_at (w ++ k) 1) 111) (begins_so (both x z) (byte_at text at) w k text at to t le s refl)).0))
  scaled_back to le (choice x z) w k t f s = absurd (opens.4 (eqb-true (byte_at text at) 99 (begins_so (choice x z) (byte_at text at) w k text at to t le s refl)))
  scaled_back to le (either e x z) w k t f s = absurd (opens.5 (eqb-true (byte_at text at) 105 (begins_so (either e x z) (byte_at text at) w k text at to t le s refl)))
  scaled_back to le (on_day d x) w k t f s = absurd (opens.6 (eqb-true (byte_at text at) 111 (begins_so (on_day d x) (byte_at text at) w k text at to t le s refl)))
  scaled_back to le (when e x) w k t f s = absurd (opens.7 (eqb-true (byte_at text at) 119 (begins_so (when e x) (byte_at text at) w k text at to t le s refl)))
  scaled_back to le (by_day d x) w k t f s = absurd (opens.3 (eqb-true (byte_at text at) 98 (and_parts (eqb (byte_at text at) 98) (eqb (byte_at (w ++ k) 1) 121) (begins_so (by_day d x) (byte_at text at) w k text at to t le s refl)).0))

  pub scaled_as : {to : ℕ} {p : Figure × (Unit {0} × Contract)} → Took NoDigit ScaledParts text at to p → Took NoDigit Text text at to (scaled_make p)
  scaled_as {to} {p} t = took_as NoDigit ScaledParts Text scaled_make scaled_sound text at to (scaled_back to t.forward) p t

  pub scaled_stops : {to : ℕ} → Stops NoDigit ScaledParts text at to → Stops NoDigit Text text at to
  scaled_stops {to} t = stops_as NoDigit ScaledParts Text scaled_make scaled_sound text at to (scaled_back to t.forward) t

-- on a day
module _ (text : List ℕ) (at : ℕ) (opens : byte_at text at ≡ 111) where
  abbrev pub OnParts : Unit {0} × (ℕ × Contract) → Language
  OnParts = Pair (Word (codes "on ")) (Pair DayColon Text)

  abbrev on_make : Unit {0} × (ℕ × Contract) → Contract
  on_make p = on_day p.1.0 p.1.1

  on_sound : (p : Unit {0} × (ℕ × Contract)) (w : List ℕ) → OnParts p w → Text (on_make p) w
  on_sound p w h = then_map (λ _ q. q) then_right w h

  on_back : (to : ℕ) → at ≤ to → (y : Contract) (w k : List ℕ) → Text y w → NoDigit k → SameBytes (w ++ k) text at to → (p : Unit {0} × (ℕ × Contract)) × OnParts p w × (on_make p ≡ y)
  on_back to le (on_day d x) w k t f s = ((tt, (d, x)), then_map (λ _ q. q) then_left w t, refl)
  on_back to le nothing w k t f s = absurd (false≢true (begins_so nothing 111 w k text at to t le s opens))
  on_back to le (pays j a) w k t f s = absurd (false≢true (begins_so (pays j a) 111 w k text at to t le s opens))
  on_back to le (turned x) w k t f s = absurd (false≢true (begins_so (turned x) 111 w k text at to t le s opens))
  on_back to le (both x z) w k t f s = absurd (false≢true (begins_so (both x z) 111 w k text at to t le s opens))
  on_back to le (choice x z) w k t f s = absurd (false≢true (begins_so (choice x z) 111 w k text at to t le s opens))
  on_back to le (either e x z) w k t f s = absurd (false≢true (begins_so (either e x z) 111 w k text at to t le s opens))
  on_back to le (scaled e x) w k t f s = absurd (false≢true (begins_so (scaled e x) 111 w k text at to t le s opens))
  on_back to le (when e x) w k t f s = absurd (false≢true (begins_so (when e x) 111 w k text at to t le s opens))
  on_back to le (by_day d x) w k t f s = absurd (false≢true (begins_so (by_day d x) 111 w k text at to t le s opens))

  pub on_as : {to : ℕ} {p : Unit {0} × (ℕ × Contract)} → Took NoDigit OnParts text at to p → Took NoDigit Text text at to (on_make p)
  on_as {to} {p} t = took_as NoDigit OnParts Text on_make on_sound text at to (on_back to t.forward) p t

  pub on_stops : {to : ℕ} → Stops NoDigit OnParts text at to → Stops NoDigit Text text at to
  on_stops {to} t = stops_as NoDigit OnParts Text on_make on_sound text at to (on_back to t.forward) t

-- when a figure says so
module _ (text : List ℕ) (at : ℕ) (opens : byte_at text at ≡ 119) where
  abbrev pub WhenParts : Unit {0} × (Figure × (Unit {0} × Contract)) → Language
  WhenParts = Pair (Word (codes "when ")) (Pair (Ended 58) (Pair (Word (codes " ")) Text))

  abbrev when_make : Unit {0} × (Figure × (Unit {0} × Contract)) → Contract
  when_make p = when p.1.0 p.1.1.1

  when_sound : (p : Unit {0} × (Figure × (Unit {0} × Contract))) (w : List ℕ) → WhenParts p w → Text (when_make p) w
  when_sound p w h = then_map (λ _ q. q) (without_end (FigureText p.1.0) (Text p.1.1.1) 58 (codes " ")) w h

  when_back : (to : ℕ) → at ≤ to → (y : Contract) (w k : List ℕ) → Text y w → NoDigit k → SameBytes (w ++ k) text at to → (p : Unit {0} × (Figure × (Unit {0} × Contract))) × WhenParts p w × (when_make p ≡ y)
  when_back to le (when e x) w k t f s = ((tt, (e, (tt, x))), then_map (λ _ q. q) (with_end (FigureText e) (Text x) 58 (codes " ")) w t, refl)
  when_back to le nothing w k t f s = absurd (false≢true (begins_so nothing 119 w k text at to t le s opens))
  when_back to le (pays j a) w k t f s = absurd (false≢true (begins_so (pays j a) 119 w k text at to t le s opens))
  when_back to le (turned x) w k t f s = absurd (false≢true (begins_so (turned x) 119 w k text at to t le s opens))
  when_back to le (both x z) w k t f s = absurd (false≢true (begins_so (both x z) 119 w k text at to t le s opens))
  when_back to le (choice x z) w k t f s = absurd (false≢true (begins_so (choice x z) 119 w k text at to t le s opens))
  when_back to le (either e x z) w k t f s = absurd (false≢true (begins_so (either e x z) 119 w k text at to t le s opens))
  when_back to le (scaled e x) w k t f s = absurd (false≢true (begins_so (scaled e x) 119 w k text at to t le s opens))
  when_back to le (on_day d x) w k t f s = absurd (false≢true (begins_so (on_day d x) 119 w k text at to t le s opens))
  when_back to le (by_day d x) w k t f s = absurd (false≢true (begins_so (by_day d x) 119 w k text at to t le s opens))

  pub when_as : {to : ℕ} {p : Unit {0} × (Figure × (Unit {0} × Contract))} → Took NoDigit WhenParts text at to p → Took NoDigit Text text at to (when_make p)
  when_as {to} {p} t = took_as NoDigit WhenParts Text when_make when_sound text at to (when_back to t.forward) p t

  pub when_stops : {to : ℕ} → Stops NoDigit WhenParts text at to → Stops NoDigit Text text at to
  when_stops {to} t = stops_as NoDigit WhenParts Text when_make when_sound text at to (when_back to t.forward) t

-- on a chosen day
module _ (text : List ℕ) (at : ℕ) (opens : (byte_at text at ≡ 98) × (byte_at text (at + 1) ≡ 121)) where
  abbrev pub ByParts : Unit {0} × (ℕ × Contract) → Language
  ByParts = Pair (Word (codes "by ")) (Pair DayColon Text)

  abbrev by_make : Unit {0} × (ℕ × Contract) → Contract
  by_make p = by_day p.1.0 p.1.1

  by_sound : (p : Unit {0} × (ℕ × Contract)) (w : List ℕ) → ByParts p w → Text (by_make p) w
  by_sound p w h = then_map (λ _ q. q) then_right w h

  by_back : (to : ℕ) → at + 1 ≤ to → (y : Contract) (w k : List ℕ) → Text y w → NoDigit k → SameBytes (w ++ k) text at to → (p : Unit {0} × (ℕ × Contract)) × ByParts p w × (by_make p ≡ y)
  by_back to le (by_day d x) w k t f s = ((tt, (d, x)), then_map (λ _ q. q) then_left w t, refl)
  by_back to le nothing w k t f s = absurd (false≢true (begins_so nothing 98 w k text at to t (omega arith) s opens.0))
  by_back to le (pays j a) w k t f s = absurd (false≢true (begins_so (pays j a) 98 w k text at to t (omega arith) s opens.0))
  by_back to le (turned x) w k t f s = absurd (false≢true (begins_so (turned x) 98 w k text at to t (omega arith) s opens.0))
  by_back to le (both x z) w k t f s =
      let second = s 1 le ∙ opens.1 in
      let other = eqb-true (byte_at (w ++ k) 1) 111 (begins_so (both x z) 98 w k text at to t (omega arith) s opens.0) in
      absurd (omega arith)
  by_back to le (choice x z) w k t f s = absurd (false≢true (begins_so (choice x z) 98 w k text at to t (omega arith) s opens.0))
  by_back to le (either e x z) w k t f s = absurd (false≢true (begins_so (either e x z) 98 w k text at to t (omega arith) s opens.0))
  by_back to le (scaled e x) w k t f s = absurd (false≢true (begins_so (scaled e x) 98 w k text at to t (omega arith) s opens.0))
  by_back to le (on_day d x) w k t f s = absurd (false≢true (begins_so (on_day d x) 98 w k text at to t (omega arith) s opens.0))
  by_back to le (when e x) w k t f s = absurd (false≢true (begins_so (when e x) 98 w k text at to t (omega arith) s opens.0))

  pub by_as : {to : ℕ} {p : Unit {0} × (ℕ × Contract)} → at + 1 ≤ to → Took NoDigit ByParts text at to p → Took NoDigit Text text at to (by_make p)
  by_as {to} {p} past t = took_as NoDigit ByParts Text by_make by_sound text at to (by_back to past) p t

  pub by_stops : {to : ℕ} → at + 1 ≤ to → Stops NoDigit ByParts text at to → Stops NoDigit Text text at to
  by_stops {to} past t = stops_as NoDigit ByParts Text by_make by_sound text at to (by_back to past) t

-- a pair behind a word
abbrev pub PairParts : List ℕ → Unit {0} × (Contract × (Unit {0} × (Contract × Unit {0}))) → Language
PairParts name = Pair (Word name) (Pair Text (Pair (Word (codes ", ")) (Pair Text (Word (codes ")")))))

module _ {text name : List ℕ} {at to : ℕ} where
  pub pair_as : {p : Unit {0} × (Contract × (Unit {0} × (Contract × Unit {0})))} → Took NoDigit (PairParts name) text at to p → Took NoDigit (PairText name) text at to (p.1.0, p.1.1.1.0)
  pair_as {p} t = took_as NoDigit (PairParts name) (PairText name) (λ p. (p.1.0, p.1.1.1.0)) (λ _ _ h. h) text at to (λ y w k h f s. ((tt, (y.0, (tt, (y.1, tt)))), h, refl)) p t

  pub pair_stops : Stops NoDigit (PairParts name) text at to → Stops NoDigit (PairText name) text at to
  pair_stops t = stops_as NoDigit (PairParts name) (PairText name) (λ p. (p.1.0, p.1.1.1.0)) (λ _ _ h. h) text at to (λ y w k h f s. ((tt, (y.0, (tt, (y.1, tt)))), h, refl)) t

-- one that was read, and one whose first byte stands there, goes beyond that byte
module _ {text s : List ℕ} {at to c : ℕ} where
  pub pair_long : {p : Contract × Contract} → Took NoDigit (PairText (c ∷ s)) text at to p → at + 1 ≤ to
  pair_long t =
      let long = length-between text at to t.within in
      let whole = ap length (sym t.taken.word.4) ∙ length-append t.taken.word.0 t.taken.word.1 in
      let word = ap length t.taken.word.2 in
      omega arith

  pub pair_past : byte_at text at ≡ c → Stops NoDigit (PairText (c ∷ s)) text at to → at + 1 ≤ to
  pair_past e t =
      let rest : List ℕ = codes "nothing, nothing)" in
      let pair : PairText (c ∷ s) (nothing, nothing) (byte_at text at ∷ (s ++ rest)) = (c ∷ s, rest, refl, (codes "nothing", codes ", nothing)", refl, (codes ", ", codes "nothing)", refl, (codes "nothing", codes ")", refl, refl, refl), refl), refl), ap (λ z. z ∷ (s ++ rest)) (sym e)) in
      let past = stops_past NoDigit (PairText (c ∷ s)) text at to t (nothing, nothing) (s ++ rest) [] pair refl in
      omega arith

-- a day, and what stands behind it
module _ {text : List ℕ} {at to : ℕ} where
  pub day_as : {p : ℕ × Unit {0}} → Took Any (Pair Number (Word (codes ": "))) text at to p → Took Any DayColon text at to p.0
  day_as {p} t = took_as Any (Pair Number (Word (codes ": "))) DayColon (λ p. p.0) (λ _ _ h. h) text at to (λ y w k h f s. ((y, tt), h, refl)) p t

  pub day_colon_stops : Stops Any (Pair Number (Word (codes ": "))) text at to → Stops Any DayColon text at to
  day_colon_stops t = stops_as Any (Pair Number (Word (codes ": "))) DayColon (λ p. p.0) (λ _ _ h. h) text at to (λ y w k h f s. ((y, tt), h, refl)) t

-- a text of each
pub a_text : HasOne Text
a_text = record { one = nothing; text = codes "nothing"; is = refl }

pub a_day : HasOne DayColon
a_day = record { one = 0; text = codes "0: "; is = (codes "0", codes ": ", some_number, refl, refl) }
