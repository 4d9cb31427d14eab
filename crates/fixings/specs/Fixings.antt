-- The rates of the last 4,097 days in lent words: as far as a figure looks back, and the day itself. Assumes nothing: these are definitions.
use Rattle.std.specs.Prelude.{◌≡◌, ℕ, ◌+◌, ◌*◌, ◌%◌, ◌<◌, ◌≤◌, List, [], ◌∷◌, ◌++◌, length, get_or, ℤ, pos, slice_index_or}
use Rattle.deals.specs.Contract.{Day, no_day, value, rate}
use Rattle.mornings.specs.Places.{rate_at}

-- where rate k of day d stands, with n rates a day
abbrev pub slot : ℕ → ℕ → ℕ → ℕ
slot n d k = d % 4097 * n + k

-- the words hold the rates of the last days
pub record HoldsRates (words : List ℤ) (n : ℕ) (ds : List Day) : Type 0 where
  pub long : 4097 * n ≤ length words
  pub rates : (d k : ℕ) → d < length ds → length ds ≤ d + 4097 → k < n → slice_index_or words (slot n d k) (pos 0) ≡ slice_index_or (get_or ds d no_day).rates k (pos 0)

-- the rates of one more day were kept, that stand in a morning's bytes from a place on
abbrev pub KeepsRates : ℕ → ℕ → List ℕ → ℕ → List ℤ → List ℤ → Type 0
KeepsRates n day bytes at words words' =
    (ds : List Day) (d : Day) → length ds ≡ day → ((k : ℕ) → k < n → (slice_index_or d.rates k (pos 0) ≡ rate_at bytes (at + 8 * k)) × (at + 8 * k + 8 ≤ length bytes)) → HoldsRates words n ds →
    HoldsRates words' n (ds ++ d ∷ [])

-- a rate of the day or of some days before, as a figure has it
abbrev pub LooksBack : ℕ → ℕ → ℕ → ℕ → List ℤ → ℤ → Type 0
LooksBack n day k before words r = (ds : List Day) → length ds ≡ day + 1 → k < n → before ≤ 4096 → HoldsRates words n ds → r ≡ value ds day (rate k before)
