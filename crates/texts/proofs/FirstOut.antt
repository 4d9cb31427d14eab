-- The first number out of range, as numbers are noted one by one. Assumes nothing.
use Rattle.std.proofs.Common.{◌≡◌, ℕ, ◌<◌, ◌≤◌, List, [], ◌∷◌, ◌++◌, Some, None, Option, refl, inl, inr, sym, true, false, ◌⊎◌, arith, MatchOption}
use Rattle.std.specs.Option.{is_some}
use Rattle.std.proofs.lemmas.Bool.{false≢true}
use Rattle.texts.specs.Reading.{capped}
use Rattle.texts.specs.Bounds.{Numeral, InRange, FirstOut}

in_more : (ks : List Numeral) (n : Numeral) → InRange ks → n.value < n.limit → InRange (ks ++ n ∷ [])
unfolding InRange
in_more [] n h l = (l, tt)
in_more (k ∷ ks) n h l = (h.0, in_more ks n h.1 l)

out_here : (ks : List Numeral) (n : Numeral) → InRange ks → n.limit ≤ n.value → FirstOut (ks ++ n ∷ []) n.place
unfolding InRange FirstOut
out_here [] n h l = inl (l, refl)
out_here (k ∷ ks) n h l = inr (h.0, out_here ks n h.1 l)

out_before : (ks ms : List Numeral) (p : ℕ) → FirstOut ks p → FirstOut (ks ++ ms) p
unfolding FirstOut
out_before [] ms p h = absurd h
out_before (k ∷ ks) ms p (inl h) = inl h
out_before (k ∷ ks) ms p (inr h) = inr (h.0, out_before ks ms p h.1)

abbrev pub FirstOf : Option ℕ → List Numeral → Type 0
FirstOf first ks = MatchOption first (InRange ks) (λ p. FirstOut ks p)

pub first_none : FirstOf None []
unfolding InRange
first_none = tt

pub first_here : (first : Option ℕ) (ks : List Numeral) (place number limit n : ℕ) → is_some first ≡ false → FirstOf first ks → number ≡ capped n → limit ≤ number →
    FirstOut (ks ++ record { place = place; limit = limit; value = n } ∷ []) place
first_here (Some p) ks place number limit n o h e l = absurd (false≢true (sym o))
first_here None ks place number limit n o h e l = out_here ks (record { place = place; limit = limit; value = n }) h (omega arith)

-- one that is in range, or comes behind one that isn't, changes nothing
pub first_kept : (first : Option ℕ) (ks : List Numeral) (place number limit n : ℕ) → (is_some first ≡ true) ⊎ (number < limit) → FirstOf first ks → number ≡ capped n → limit < 18446744073709551616 →
    FirstOf first (ks ++ record { place = place; limit = limit; value = n } ∷ [])
first_kept (Some p) ks place number limit n o h e b = out_before ks (record { place = place; limit = limit; value = n } ∷ []) p h
first_kept None ks place number limit n (inl o) h e b = absurd (false≢true o)
first_kept None ks place number limit n (inr l) h e b = in_more ks (record { place = place; limit = limit; value = n }) h (omega arith)
