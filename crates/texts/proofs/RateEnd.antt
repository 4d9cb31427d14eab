-- What the reader of what stands behind the k of a rate promises. Assumes nothing.
use Rattle.std.proofs.Common.{◌≡◌, ℕ, ◌+◌, ◌≤◌, true, false, List, [], ◌∷◌, ◌++◌, sym, refl, ap, ◌∙◌, inl, inr, append_assoc, arith}
use Rattle.texts.specs.Text.{Language, digit, digits, Number}
use Rattle.texts.specs.Reading.{byte_at, Any, NoDigit, Word, Took, Stops}
use Rattle.texts.specs.Figures.{RateEnding}
use Rattle.std.proofs.lemmas.Bool.{and_parts}
use Rattle.texts.proofs.OneWord.{byte_took}
use Rattle.texts.proofs.Parts.{Pair, took_then, stops_before, stops_behind, took_as, stops_as, took_under, stops_under}
use Rattle.texts.proofs.Numerals.{clash}

-- the first byte of a number is a digit
pub number_digit : (n : ℕ) (w k : List ℕ) → Number n w → digit (byte_at (w ++ k) 0) ≡ true
number_digit n [] k h = let s = h.some in absurd (omega arith)
number_digit n (c ∷ w) k h = (and_parts (digit c) (digits w) h.plain).0

abbrev pub SameBytes : List ℕ → List ℕ → ℕ → ℕ → Type 0
SameBytes v text at to = (i : ℕ) → at + i ≤ to → byte_at v i ≡ byte_at text (at + i)

pub at_first : (v text : List ℕ) (at to : ℕ) → at ≤ to → SameBytes v text at to → byte_at v 0 ≡ byte_at text at
at_first v text at to le same = let here : at + 0 ≡ at = omega arith in same 0 (omega arith) ∙ ap (λ i. byte_at text i) here

module _ (text : List ℕ) (at to end : ℕ) where
  -- no space: only the end is left
  ended : (byte_at text at ≡ 32 → ⊥) → at ≤ to → (y : ℕ) (w k : List ℕ) → RateEnding end y w → NoDigit k → SameBytes (w ++ k) text at to → (u : Unit {0}) × Word (end ∷ []) u w × (0 ≡ y)
  ended n le y w k (inl d) f same =
      let first : byte_at (w ++ k) 0 ≡ 32 = ap (λ v. byte_at (v ++ k) 0) (sym d.4 ∙ ap (λ v. v ++ d.1) d.2) in
      absurd (n (sym (at_first (w ++ k) text at to le same) ∙ first))
  ended n le y w k (inr d) f same = (tt, d.1, sym d.0)

  pub end_took : (byte_at text at ≡ 32 → ⊥) → Took Any (Word (end ∷ [])) text at to tt → Took NoDigit (RateEnding end) text at to 0
  end_took n t =
      took_as NoDigit (Word (end ∷ [])) (RateEnding end) (λ _. 0) (λ _ _ e. inr (refl, e)) text at to (ended n t.forward) tt
      (took_under Any NoDigit (Word (end ∷ [])) text at to tt (λ _ _. tt) t)

  pub end_stops : (byte_at text at ≡ 32 → ⊥) → Stops Any (Word (end ∷ [])) text at to → Stops NoDigit (RateEnding end) text at to
  end_stops n t =
      stops_as NoDigit (Word (end ∷ [])) (RateEnding end) (λ _. 0) (λ _ _ e. inr (refl, e)) text at to (ended n t.forward)
      (stops_under Any NoDigit (Word (end ∷ [])) text at to (λ _ _. tt) t)

-- a space that ends the figure, with no digit behind it
module _ (text : List ℕ) (at : ℕ) (space : byte_at text at ≡ 32) (none : digit (byte_at text (at + 1)) ≡ false) where
  spaced : (y : ℕ) (w k : List ℕ) → RateEnding 32 y w → NoDigit k → SameBytes (w ++ k) text at (at + 1) → (u : Unit {0}) × Word (32 ∷ []) u w × (0 ≡ y)
  spaced y w k (inl (a, b, p, (v, r, n, q, s), t)) f same =
      let whole : w ++ k ≡ 32 ∷ ((v ++ r) ++ k) = ap (λ z. z ++ k) (sym t ∙ ap (λ z. z ++ b) p ∙ ap (λ z. 32 ∷ z) (sym s)) in
      let second : byte_at ((v ++ r) ++ k) 0 ≡ byte_at text (at + 1) = ap (λ z. byte_at z 1) (sym whole) ∙ same 1 (omega arith) in
      let number : digit (byte_at ((v ++ r) ++ k) 0) ≡ true = ap (λ z. digit (byte_at z 0)) (append_assoc v r k) ∙ number_digit y v (r ++ k) n in
      absurd (clash (digit (byte_at text (at + 1))) (ap digit (sym second) ∙ number) none)
  spaced y w k (inr d) f same = (tt, d.1, sym d.0)

  pub space_took : Took NoDigit (RateEnding 32) text at (at + 1) 0
  space_took =
      took_as NoDigit (Word (32 ∷ [])) (RateEnding 32) (λ _. 0) (λ _ _ e. inr (refl, e)) text at (at + 1) spaced tt
      (took_under Any NoDigit (Word (32 ∷ [])) text at (at + 1) tt (λ _ _. tt) (byte_took text at 32 space (omega arith)))

-- a space, n and the end
module _ (text : List ℕ) (at to end : ℕ) (space : byte_at text at ≡ 32) (asks : end ≡ 32 → digit (byte_at text (at + 1)) ≡ true) (plain : digit end ≡ false) where
  abbrev pub Numbered : Unit {0} × (ℕ × Unit {0}) → Language
  Numbered = Pair (Word (32 ∷ [])) (Pair Number (Word (end ∷ [])))

  abbrev make : Unit {0} × (ℕ × Unit {0}) → ℕ
  make p = p.1.0

  numbered : at + 1 ≤ to → (y : ℕ) (w k : List ℕ) → RateEnding end y w → NoDigit k → SameBytes (w ++ k) text at to → (p : Unit {0} × (ℕ × Unit {0})) × Numbered p w × (make p ≡ y)
  numbered le y w k (inl d) f same = ((tt, (y, tt)), d, refl)
  numbered le y w k (inr d) f same =
      let whole : w ++ k ≡ end ∷ k = ap (λ z. z ++ k) d.1 in
      let first : end ≡ 32 = ap (λ z. byte_at z 0) (sym whole) ∙ at_first (w ++ k) text at to (omega arith) same ∙ space in
      let second : byte_at k 0 ≡ byte_at text (at + 1) = ap (λ z. byte_at z 1) (sym whole) ∙ same 1 le in
      absurd (clash (digit (byte_at text (at + 1))) (asks first) (ap digit (sym second) ∙ f))

  pub n_as : {p : Unit {0} × (ℕ × Unit {0})} → at + 1 ≤ to → Took NoDigit Numbered text at to p → Took NoDigit (RateEnding end) text at to (make p)
  n_as {p} past t = took_as NoDigit Numbered (RateEnding end) make (λ _ _ h. inl h) text at to (numbered past) p t

  behind : (y : Unit {0}) (w k : List ℕ) → Word (end ∷ []) y w → NoDigit k → NoDigit (w ++ k)
  behind y w k e f = ap (λ z. digit (byte_at (z ++ k) 0)) e ∙ plain

  pub n_took : (n b : ℕ) → Took NoDigit Number text (at + 1) b n → Took Any (Word (end ∷ [])) text b to tt → Took NoDigit (RateEnding end) text at to n
  n_took n b t r =
      let second = took_then NoDigit NoDigit Number (Word (end ∷ [])) behind text (at + 1) b to n tt t (took_under Any NoDigit (Word (end ∷ [])) text b to tt (λ _ _. tt) r) in
      let whole = took_then Any NoDigit (Word (32 ∷ [])) (Pair Number (Word (end ∷ []))) (λ _ _ _ _ _. tt) text at (at + 1) to tt (n, tt) (byte_took text at 32 space (omega arith)) second in
      took_as NoDigit Numbered (RateEnding end) make (λ _ _ h. inl h) text at to (numbered second.forward) (tt, (n, tt)) whole

  pub n_stops_end : (n b : ℕ) → Took NoDigit Number text (at + 1) b n → Stops Any (Word (end ∷ [])) text b to → Stops NoDigit (RateEnding end) text at to
  n_stops_end n b t r =
      let second = stops_behind NoDigit NoDigit Number (Word (end ∷ [])) behind text (at + 1) b to n t (stops_under Any NoDigit (Word (end ∷ [])) text b to (λ _ _. tt) r) in
      let whole = stops_behind Any NoDigit (Word (32 ∷ [])) (Pair Number (Word (end ∷ []))) (λ _ _ _ _ _. tt) text at (at + 1) to tt (byte_took text at 32 space (omega arith)) second in
      stops_as NoDigit Numbered (RateEnding end) make (λ _ _ h. inl h) text at to (numbered second.forward) whole

  pub n_stops : Stops NoDigit Number text (at + 1) to → Stops NoDigit (RateEnding end) text at to
  n_stops r =
      let second = stops_before NoDigit NoDigit Number (Word (end ∷ [])) behind text (at + 1) to tt (end ∷ []) refl r in
      let whole = stops_behind Any NoDigit (Word (32 ∷ [])) (Pair Number (Word (end ∷ []))) (λ _ _ _ _ _. tt) text at (at + 1) to tt (byte_took text at 32 space (omega arith)) second in
      stops_as NoDigit Numbered (RateEnding end) make (λ _ _ h. inl h) text at to (numbered second.forward) whole
