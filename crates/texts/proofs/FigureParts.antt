-- What the readers of figures promise. Assumes nothing.
use Rattle.std.proofs.lemmas.Bool.{false≢true}
use Rattle.std.proofs.Common.{◌≡◌, ℕ, ◌+◌, ◌<◌, ◌≤◌, Bool, true, false, cond, ◌||◌, eqb, List, [], ◌∷◌, ◌++◌, length, ℤ, pos, negsuc, codes, sym, refl, ap, ◌∙◌, inl, inr, append_assoc, arith, eqb-true}
use Rattle.deals.specs.Contract.{Figure, fixed, rate, day, plus, minus, times, most, less}
use Rattle.texts.specs.Text.{Language, exactly, ◌then◌, digit, Number, Amount, FigureText}
use Rattle.texts.specs.Reading.{byte_at, Any, NoDigit, Word, Took, Stops}
use Rattle.texts.specs.Figures.{Ended, RateEnding, Operator, add, subtract, multiply, compare, operator_byte, OperatorText, applied}
use Rattle.texts.proofs.OneWord.{byte_took, byte_stops}
use Rattle.texts.proofs.Parts.{Pair, HasOne, Follows, by_word, took_as, stops_as}
use Rattle.texts.proofs.Thens.{then_right, then_left, then_map, cut, glue, read_so, spelt_so}
use Rattle.texts.proofs.RateEnd.{number_digit, SameBytes, at_first}

-- what begins with a word has its bytes
pub led : (s w k : List ℕ) (Q : Language) → (Word s tt then Q) w → (b : List ℕ) × (w ++ k ≡ s ++ (b ++ k))
led s w k Q (a, b, p, q, e) = (b, ap (λ z. z ++ k) (sym e ∙ ap (λ z. z ++ b) p) ∙ append_assoc s b k)

-- which bytes a figure may begin with
abbrev pub starts : Figure → ℕ → Bool
starts (fixed a) b = digit b || eqb b 45
starts (rate k n) b = eqb b 114
starts day b = eqb b 100
starts (plus e f) b = eqb b 40
starts (minus e f) b = eqb b 40
starts (times e f) b = eqb b 40
starts (most e f) b = eqb b 109
starts (less e f) b = eqb b 40

amount_starts : (a : ℤ) (w k : List ℕ) → Amount a w → (digit (byte_at (w ++ k) 0) || eqb (byte_at (w ++ k) 0) 45) ≡ true
amount_starts (pos n) w k t = let d = number_digit n w k t in grind arith
amount_starts (negsuc n) w k t = ap (λ z. digit (byte_at z 0) || eqb (byte_at z 0) 45) (led (codes "-") w k (Number _) t).1

pub figure_starts : (e : Figure) (w k : List ℕ) → FigureText e w → starts e (byte_at (w ++ k) 0) ≡ true
figure_starts (fixed a) w k t = amount_starts a w k t
figure_starts (rate j n) w k (inl t) = ap (λ z. eqb (byte_at z 0) 114) (led (codes "rate ") w k _ t).1
figure_starts (rate j n) w k (inr t) = ap (λ z. eqb (byte_at z 0) 114) (led (codes "rate ") w k _ t.1).1
figure_starts day w k t = ap (λ z. eqb (byte_at (z ++ k) 0) 100) t
figure_starts (plus e f) w k t = ap (λ z. eqb (byte_at z 0) 40) (led (codes "(") w k _ t).1
figure_starts (minus e f) w k t = ap (λ z. eqb (byte_at z 0) 40) (led (codes "(") w k _ t).1
figure_starts (times e f) w k t = ap (λ z. eqb (byte_at z 0) 40) (led (codes "(") w k _ t).1
figure_starts (most e f) w k t = ap (λ z. eqb (byte_at z 0) 109) (led (codes "max(") w k _ t).1
figure_starts (less e f) w k t = ap (λ z. eqb (byte_at z 0) 40) (led (codes "(") w k _ t).1

ended_starts : (e : Figure) (end : ℕ) (w k : List ℕ) → Ended end e w → starts e (byte_at (w ++ k) 0) ≡ true
ended_starts e end w k (a, b, t, p, q) = ap (λ z. starts e (byte_at z 0)) (ap (λ z. z ++ k) (sym q) ∙ append_assoc a b k) ∙ figure_starts e a (b ++ k) t

-- a figure that stands where the text has this byte begins with it
begins_so : (e : Figure) (end b : ℕ) (w k text : List ℕ) (at to : ℕ) → Ended end e w → at ≤ to → SameBytes (w ++ k) text at to → byte_at text at ≡ b → starts e b ≡ true
begins_so e end b w k text at to t le s opens = ap (starts e) (sym (at_first (w ++ k) text at to le s ∙ opens)) ∙ ended_starts e end w k t

-- some text of each kind
pub some_number : Number 0 (48 ∷ [])
some_number = record { some = omega arith; plain = refl; lead = λ _. refl; worth = refl }

-- a text of each
pub a_number : HasOne Number
a_number = record { one = 0; text = codes "0"; is = some_number }

pub an_amount : HasOne Amount
an_amount = record { one = pos 0; text = codes "0"; is = some_number }

pub a_figure : {end : ℕ} → HasOne (Ended end)
a_figure {end} = record { one = fixed (pos 0); text = 48 ∷ end ∷ []; is = (codes "0", end ∷ [], some_number, refl, refl) }

pub an_operator : HasOne OperatorText
an_operator = record { one = add; text = codes "+"; is = refl }

pub a_rate_end : {end : ℕ} → HasOne (RateEnding end)
a_rate_end {end} = record { one = 0; text = end ∷ []; is = inr (refl, refl) }

-- what stands behind a rate's k is no digit
pub by_rate_end : {end : ℕ} → digit end ≡ false → Follows NoDigit NoDigit (RateEnding end)
by_rate_end {end} plain = record { so = so }
  where
    so : (n : ℕ) (w k : List ℕ) → RateEnding end n w → NoDigit k → NoDigit (w ++ k)
    so n w k (inl t) f = ap (λ z. digit (byte_at z 0)) (led (32 ∷ []) w k _ t).1
    so n w k (inr t) f = ap (λ z. digit (byte_at (z ++ k) 0)) t.1 ∙ plain

-- what stands between two figures
operator_of : ℕ → Operator
operator_of b = cond (eqb b 43) add (cond (eqb b 45) subtract (cond (eqb b 42) multiply compare))

operator_again : (o : Operator) → operator_of (operator_byte o) ≡ o
unfolding operator_of
operator_again add = refl
operator_again subtract = refl
operator_again multiply = refl
operator_again compare = refl

operator_first : (y : Operator) (w k : List ℕ) → OperatorText y w → byte_at (w ++ k) 0 ≡ operator_byte y
operator_first y w k e = ap (λ z. byte_at (z ++ k) 0) e

pub operator_took : (text : List ℕ) (at : ℕ) (o : Operator) → byte_at text at ≡ operator_byte o → operator_byte o < 256 → Took Any OperatorText text at (at + 1) o
operator_took text at o opens small =
    took_as Any (Word (operator_byte o ∷ [])) OperatorText (λ _. o) (λ _ _ e. e) text at (at + 1) back tt (byte_took text at (operator_byte o) opens small)
  where
    back : (y : Operator) (w k : List ℕ) → OperatorText y w → Any k → SameBytes (w ++ k) text at (at + 1) → (u : Unit {0}) × Word (operator_byte o ∷ []) u w × (o ≡ y)
    back y w k e f s =
        let byte : operator_byte y ≡ operator_byte o = sym (operator_first y w k e) ∙ at_first (w ++ k) text at (at + 1) (omega arith) s ∙ opens in
        (tt, e ∙ ap (λ b. b ∷ []) byte, sym (operator_again o) ∙ ap operator_of (sym byte) ∙ operator_again y)

pub operator_stops : (text : List ℕ) (at : ℕ) → at ≤ length text → ((o : Operator) → byte_at text at ≡ operator_byte o → ⊥) → Stops Any OperatorText text at at
operator_stops text at h n = stops_as Any (Word (43 ∷ [])) OperatorText (λ _. add) (λ _ _ e. e) text at at back (byte_stops text at 43 h (n add))
  where
    back : (y : Operator) (w k : List ℕ) → OperatorText y w → Any k → SameBytes (w ++ k) text at at → (u : Unit {0}) × Word (43 ∷ []) u w × (add ≡ y)
    back y w k e f s = absurd (n y (sym (at_first (w ++ k) text at at (omega arith) s) ∙ operator_first y w k e))

plain_operator : (o : Operator) → digit (operator_byte o) ≡ false
plain_operator add = refl
plain_operator subtract = refl
plain_operator multiply = refl
plain_operator compare = refl

pub by_operator : (o : Operator) {Q : Language} (w k : List ℕ) → (OperatorText o then Q) w → NoDigit (w ++ k)
by_operator o w k d = by_word w k d (plain_operator o)

pub by_operators : {B : Type 0} {G : Language} (N : B → Language) → Follows NoDigit G (Pair OperatorText N)
by_operators N = record { so = λ y w k d g. by_operator y.0 w k d }

-- a rate
module _ (text : List ℕ) (at end : ℕ) (opens : byte_at text at ≡ 114) where
  abbrev pub RateParts : Unit {0} × (ℕ × ℕ) → Language
  RateParts = Pair (Word (codes "rate ")) (Pair Number (RateEnding end))

  abbrev rate_make : Unit {0} × (ℕ × ℕ) → Figure
  rate_make p = rate p.1.0 p.1.1

  rate_sound : (p : Unit {0} × (ℕ × ℕ)) (w : List ℕ) → RateParts p w → Ended end (rate_make p) w
  rate_sound p w (a, b, h, (v, r, n, inl t, s), q) =
      let d = then_left w (a, b, h, then_left b (v, r, n, then_left r t, s), q) in
      (d.0, d.1, inl d.2, d.3, d.4)
  rate_sound p w (a, b, h, (v, r, n, inr t, s), q) =
      let d = then_left {R = Word (end ∷ []) tt} w (a, b, h, (v, r, n, t.1, s), q) in
      (d.0, d.1, inr (t.0, d.2), d.3, d.4)

  rate_back : (to : ℕ) → at ≤ to → (y : Figure) (w k : List ℕ) → Ended end y w → NoDigit k → SameBytes (w ++ k) text at to → (p : Unit {0} × (ℕ × ℕ)) × RateParts p w × (rate_make p ≡ y)
  rate_back to le (rate j n) w k (a, b, inl t, e, q) f s =
      let d = then_right w (a, b, t, e, q) in
      let d' = then_right d.1 d.3 in
      ((tt, (j, n)), (d.0, d.1, d.2, (d'.0, d'.1, d'.2, inl (then_right d'.1 d'.3), d'.4), d.4), refl)
  rate_back to le (rate j n) w k (a, b, inr t, e, q) f s =
      let d = then_right {R = Word (end ∷ []) tt} w (a, b, t.1, e, q) in
      ((tt, (j, n)), (d.0, d.1, d.2, (d.3.0, d.3.1, d.3.2, inr (t.0, d.3.3), d.3.4), d.4), refl)
  rate_back to le (fixed a) w k t f s = absurd (false≢true (begins_so (fixed a) end 114 w k text at to t le s opens))
  rate_back to le day w k t f s = absurd (false≢true (begins_so day end 114 w k text at to t le s opens))
  rate_back to le (plus e g) w k t f s = absurd (false≢true (begins_so (plus e g) end 114 w k text at to t le s opens))
  rate_back to le (minus e g) w k t f s = absurd (false≢true (begins_so (minus e g) end 114 w k text at to t le s opens))
  rate_back to le (times e g) w k t f s = absurd (false≢true (begins_so (times e g) end 114 w k text at to t le s opens))
  rate_back to le (most e g) w k t f s = absurd (false≢true (begins_so (most e g) end 114 w k text at to t le s opens))
  rate_back to le (less e g) w k t f s = absurd (false≢true (begins_so (less e g) end 114 w k text at to t le s opens))

  pub rate_as : {to : ℕ} {p : Unit {0} × (ℕ × ℕ)} → Took NoDigit RateParts text at to p → Took NoDigit (Ended end) text at to (rate_make p)
  rate_as {to} {p} t = took_as NoDigit RateParts (Ended end) rate_make rate_sound text at to (rate_back to t.forward) p t

  pub rate_stops : {to : ℕ} → Stops NoDigit RateParts text at to → Stops NoDigit (Ended end) text at to
  rate_stops {to} t = stops_as NoDigit RateParts (Ended end) rate_make rate_sound text at to (rate_back to t.forward) t

-- the day
module _ (text : List ℕ) (at end : ℕ) (opens : byte_at text at ≡ 100) where
  abbrev pub DayParts : Unit {0} × Unit {0} → Language
  DayParts = Pair (Word (codes "day")) (Word (end ∷ []))

  abbrev day_make : Unit {0} × Unit {0} → Figure
  day_make p = day

  day_sound : (p : Unit {0} × Unit {0}) (w : List ℕ) → DayParts p w → Ended end (day_make p) w
  day_sound p w h = h

  day_back : (to : ℕ) → at ≤ to → (y : Figure) (w k : List ℕ) → Ended end y w → NoDigit k → SameBytes (w ++ k) text at to → (p : Unit {0} × Unit {0}) × DayParts p w × (day_make p ≡ y)
  day_back to le day w k t f s = ((tt, tt), t, refl)
  day_back to le (fixed a) w k t f s = absurd (false≢true (begins_so (fixed a) end 100 w k text at to t le s opens))
  day_back to le (rate j n) w k t f s = absurd (false≢true (begins_so (rate j n) end 100 w k text at to t le s opens))
  day_back to le (plus e g) w k t f s = absurd (false≢true (begins_so (plus e g) end 100 w k text at to t le s opens))
  day_back to le (minus e g) w k t f s = absurd (false≢true (begins_so (minus e g) end 100 w k text at to t le s opens))
  day_back to le (times e g) w k t f s = absurd (false≢true (begins_so (times e g) end 100 w k text at to t le s opens))
  day_back to le (most e g) w k t f s = absurd (false≢true (begins_so (most e g) end 100 w k text at to t le s opens))
  day_back to le (less e g) w k t f s = absurd (false≢true (begins_so (less e g) end 100 w k text at to t le s opens))

  pub day_as : {to : ℕ} {p : Unit {0} × Unit {0}} → Took NoDigit DayParts text at to p → Took NoDigit (Ended end) text at to (day_make p)
  day_as {to} {p} t = took_as NoDigit DayParts (Ended end) day_make day_sound text at to (day_back to t.forward) p t

  pub day_stops : {to : ℕ} → Stops NoDigit DayParts text at to → Stops NoDigit (Ended end) text at to
  day_stops {to} t = stops_as NoDigit DayParts (Ended end) day_make day_sound text at to (day_back to t.forward) t

-- a number
module _ (text : List ℕ) (at end : ℕ) (opens : (byte_at text at ≡ 40 → ⊥) × (byte_at text at ≡ 109 → ⊥) × (byte_at text at ≡ 114 → ⊥) × (byte_at text at ≡ 100 → ⊥)) where
  abbrev pub FixedParts : ℤ × Unit {0} → Language
  FixedParts = Pair Amount (Word (end ∷ []))

  abbrev fixed_make : ℤ × Unit {0} → Figure
  fixed_make p = fixed p.0

  fixed_sound : (p : ℤ × Unit {0}) (w : List ℕ) → FixedParts p w → Ended end (fixed_make p) w
  fixed_sound p w h = h

  fixed_back : (to : ℕ) → at ≤ to → (y : Figure) (w k : List ℕ) → Ended end y w → NoDigit k → SameBytes (w ++ k) text at to → (p : ℤ × Unit {0}) × FixedParts p w × (fixed_make p ≡ y)
  fixed_back to le (fixed a) w k t f s = ((a, tt), t, refl)
  fixed_back to le (rate j n) w k t f s = absurd (opens.2 (eqb-true (byte_at text at) 114 (begins_so (rate j n) end (byte_at text at) w k text at to t le s refl)))
  fixed_back to le day w k t f s = absurd (opens.3 (eqb-true (byte_at text at) 100 (begins_so day end (byte_at text at) w k text at to t le s refl)))
  fixed_back to le (plus e g) w k t f s = absurd (opens.0 (eqb-true (byte_at text at) 40 (begins_so (plus e g) end (byte_at text at) w k text at to t le s refl)))
  fixed_back to le (minus e g) w k t f s = absurd (opens.0 (eqb-true (byte_at text at) 40 (begins_so (minus e g) end (byte_at text at) w k text at to t le s refl)))
  fixed_back to le (times e g) w k t f s = absurd (opens.0 (eqb-true (byte_at text at) 40 (begins_so (times e g) end (byte_at text at) w k text at to t le s refl)))
  fixed_back to le (most e g) w k t f s = absurd (opens.1 (eqb-true (byte_at text at) 109 (begins_so (most e g) end (byte_at text at) w k text at to t le s refl)))
  fixed_back to le (less e g) w k t f s = absurd (opens.0 (eqb-true (byte_at text at) 40 (begins_so (less e g) end (byte_at text at) w k text at to t le s refl)))

  pub fixed_as : {to : ℕ} {p : ℤ × Unit {0}} → Took NoDigit FixedParts text at to p → Took NoDigit (Ended end) text at to (fixed_make p)
  fixed_as {to} {p} t = took_as NoDigit FixedParts (Ended end) fixed_make fixed_sound text at to (fixed_back to t.forward) p t

  pub fixed_stops : {to : ℕ} → Stops NoDigit FixedParts text at to → Stops NoDigit (Ended end) text at to
  fixed_stops {to} t = stops_as NoDigit FixedParts (Ended end) fixed_make fixed_sound text at to (fixed_back to t.forward) t

-- the larger of two
module _ (text : List ℕ) (at end : ℕ) (opens : byte_at text at ≡ 109) where
  abbrev pub LargerParts : Unit {0} × (Figure × (Unit {0} × (Figure × Unit {0}))) → Language
  LargerParts = Pair (Word (codes "max(")) (Pair (Ended 44) (Pair (Word (32 ∷ [])) (Pair (Ended 41) (Word (end ∷ [])))))

  abbrev larger_make : Unit {0} × (Figure × (Unit {0} × (Figure × Unit {0}))) → Figure
  larger_make p = most p.1.0 p.1.1.1.0

  larger_sound : (p : Unit {0} × (Figure × (Unit {0} × (Figure × Unit {0})))) (w : List ℕ) → LargerParts p w → Ended end (larger_make p) w
  larger_sound p w h = spelt_so (FigureText p.1.0) (FigureText p.1.1.1.0) (codes "max(") (32 ∷ []) 44 end w h

  larger_back : (to : ℕ) → at ≤ to → (y : Figure) (w k : List ℕ) → Ended end y w → NoDigit k → SameBytes (w ++ k) text at to → (p : Unit {0} × (Figure × (Unit {0} × (Figure × Unit {0})))) × LargerParts p w × (larger_make p ≡ y)
  larger_back to le (most e g) w k t f s = ((tt, (e, (tt, (g, tt)))), read_so (FigureText e) (FigureText g) (codes "max(") (32 ∷ []) 44 end w t, refl)
  larger_back to le (fixed a) w k t f s = absurd (false≢true (begins_so (fixed a) end 109 w k text at to t le s opens))
  larger_back to le (rate j n) w k t f s = absurd (false≢true (begins_so (rate j n) end 109 w k text at to t le s opens))
  larger_back to le day w k t f s = absurd (false≢true (begins_so day end 109 w k text at to t le s opens))
  larger_back to le (plus e g) w k t f s = absurd (false≢true (begins_so (plus e g) end 109 w k text at to t le s opens))
  larger_back to le (minus e g) w k t f s = absurd (false≢true (begins_so (minus e g) end 109 w k text at to t le s opens))
  larger_back to le (times e g) w k t f s = absurd (false≢true (begins_so (times e g) end 109 w k text at to t le s opens))
  larger_back to le (less e g) w k t f s = absurd (false≢true (begins_so (less e g) end 109 w k text at to t le s opens))

  pub larger_as : {to : ℕ} {p : Unit {0} × (Figure × (Unit {0} × (Figure × Unit {0})))} → Took NoDigit LargerParts text at to p → Took NoDigit (Ended end) text at to (larger_make p)
  larger_as {to} {p} t = took_as NoDigit LargerParts (Ended end) larger_make larger_sound text at to (larger_back to t.forward) p t

  pub larger_stops : {to : ℕ} → Stops NoDigit LargerParts text at to → Stops NoDigit (Ended end) text at to
  larger_stops {to} t = stops_as NoDigit LargerParts (Ended end) larger_make larger_sound text at to (larger_back to t.forward) t

-- two in brackets, with the byte between them by itself
module _ (e g : Figure) (b end : ℕ) where
  abbrev pub BracketSpelt : Language
  BracketSpelt = (exactly "(" then FigureText e then Word (32 ∷ b ∷ 32 ∷ []) tt then FigureText g then exactly ")") then Word (end ∷ []) tt

  abbrev pub BracketRead : Language
  BracketRead = Word (codes "(") tt then Ended 32 e then Word (b ∷ []) tt then Word (32 ∷ []) tt then Ended 41 g then Word (end ∷ []) tt

  pub bracketed : (w : List ℕ) → BracketSpelt w → BracketRead w
  bracketed w h =
      then_map (λ _ q. q) (λ v q. then_map (λ _ r. r) (λ u r. cut b (32 ∷ []) (Ended 41 g then Word (end ∷ []) tt) u r) v q) w
      (read_so (FigureText e) (FigureText g) (codes "(") (b ∷ 32 ∷ []) 32 end w h)

  unbracketed : (w : List ℕ) → BracketRead w → BracketSpelt w
  unbracketed w h =
      spelt_so (FigureText e) (FigureText g) (codes "(") (b ∷ 32 ∷ []) 32 end w
      (then_map (λ _ q. q) (λ v q. then_map (λ _ r. r) (λ u r. glue b (32 ∷ []) (Ended 41 g then Word (end ∷ []) tt) u r) v q) w h)

-- two in brackets
module _ (text : List ℕ) (at end : ℕ) (opens : byte_at text at ≡ 40) where
  abbrev pub BracketParts : Unit {0} × (Figure × (Operator × (Unit {0} × (Figure × Unit {0})))) → Language
  BracketParts = Pair (Word (codes "(")) (Pair (Ended 32) (Pair OperatorText (Pair (Word (32 ∷ [])) (Pair (Ended 41) (Word (end ∷ []))))))

  abbrev bracket_make : Unit {0} × (Figure × (Operator × (Unit {0} × (Figure × Unit {0})))) → Figure
  bracket_make p = applied p.1.1.0 p.1.0 p.1.1.1.1.0

  bracket_sound : (p : Unit {0} × (Figure × (Operator × (Unit {0} × (Figure × Unit {0}))))) (w : List ℕ) → BracketParts p w → Ended end (bracket_make p) w
  bracket_sound (u, (e, (add, (v, (g, z))))) w h = unbracketed e g 43 end w h
  bracket_sound (u, (e, (subtract, (v, (g, z))))) w h = unbracketed e g 45 end w h
  bracket_sound (u, (e, (multiply, (v, (g, z))))) w h = unbracketed e g 42 end w h
  bracket_sound (u, (e, (compare, (v, (g, z))))) w h = unbracketed e g 60 end w h

  bracket_back : (to : ℕ) → at ≤ to → (y : Figure) (w k : List ℕ) → Ended end y w → NoDigit k → SameBytes (w ++ k) text at to → (p : Unit {0} × (Figure × (Operator × (Unit {0} × (Figure × Unit {0}))))) × BracketParts p w × (bracket_make p ≡ y)
  bracket_back to le (plus e g) w k t f s = ((tt, (e, (add, (tt, (g, tt))))), bracketed e g 43 end w t, refl)
  bracket_back to le (minus e g) w k t f s = ((tt, (e, (subtract, (tt, (g, tt))))), bracketed e g 45 end w t, refl)
  bracket_back to le (times e g) w k t f s = ((tt, (e, (multiply, (tt, (g, tt))))), bracketed e g 42 end w t, refl)
  bracket_back to le (less e g) w k t f s = ((tt, (e, (compare, (tt, (g, tt))))), bracketed e g 60 end w t, refl)
  bracket_back to le (fixed a) w k t f s = absurd (false≢true (begins_so (fixed a) end 40 w k text at to t le s opens))
  bracket_back to le (rate j n) w k t f s = absurd (false≢true (begins_so (rate j n) end 40 w k text at to t le s opens))
  bracket_back to le day w k t f s = absurd (false≢true (begins_so day end 40 w k text at to t le s opens))
  bracket_back to le (most e g) w k t f s = absurd (false≢true (begins_so (most e g) end 40 w k text at to t le s opens))

  pub bracket_as : {to : ℕ} {p : Unit {0} × (Figure × (Operator × (Unit {0} × (Figure × Unit {0}))))} → Took NoDigit BracketParts text at to p → Took NoDigit (Ended end) text at to (bracket_make p)
  bracket_as {to} {p} t = took_as NoDigit BracketParts (Ended end) bracket_make bracket_sound text at to (bracket_back to t.forward) p t

  pub bracket_stops : {to : ℕ} → Stops NoDigit BracketParts text at to → Stops NoDigit (Ended end) text at to
  bracket_stops {to} t = stops_as NoDigit BracketParts (Ended end) bracket_make bracket_sound text at to (bracket_back to t.forward) t
