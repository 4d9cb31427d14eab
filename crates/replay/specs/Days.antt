-- What the kept bytes of the mornings taken say of each day. Assumes nothing: these are definitions.
use Rattle.std.specs.Prelude.{ℕ, ◌+◌, ◌-◌, ◌*◌, ◌/◌, List, length, get_or, take, drop, ℤ, pos, nat_le, nat_lt, slice_index_or}
use Rattle.std.specs.Int.{w64}
use Rattle.std.proofs.Common.{to_z}
use Rattle.octets.specs.Octets.{word}
use Rattle.deals.specs.Contract.{pick}
use Rattle.replay.specs.declared.days.DayAt.{DayAt}
use Rattle.replay.specs.declared.days.Days.{Days}

-- no morning
abbrev pub nowhere : DayAt
nowhere = record { from = 0; to = 0; parts = record { deals = 0; rates_at = 0; choices_at = 0; choices = 0 } }

-- the bytes of a morning
unfoldable pub bytes_of : List ℕ → DayAt → List ℕ
bytes_of kept d = take (d.to - d.from) (drop d.from kept)

-- number k of a row of numbers with sign that begins at a place; 0 past the end
unfoldable pub signed_at : List ℕ → ℕ → ℕ → ℤ
signed_at s at k = pick (nat_lt k ((length s - at) / 8)) (to_z w64 (word 8 s (at + 8 * k))) (pos 0)

-- rate k of day t; 0 on a day that is not known
unfoldable pub rate_on : List ℕ → List DayAt → ℕ → ℕ → ℤ
rate_on kept days t k =
    pick (nat_lt t (length days)) (signed_at (bytes_of kept (slice_index_or days t nowhere)) (get_or days t nowhere).parts.rates_at k) (pos 0)

abbrev pub rates_of : Days → ℕ → ℕ → ℤ
rates_of d = rate_on d.kept.now d.days.now

-- the same, n days before; 0 before the first day
abbrev pub rate_before : (ℕ → ℕ → ℤ) → ℕ → ℕ → ℕ → ℤ
rate_before rates t k n = pick (nat_le n t) (rates (t - n) k) (pos 0)
