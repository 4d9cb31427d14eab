-- What 64 bits hold in full: every number below 2^62 in size. So where no number on the way passes 2^62, wrapping changes nothing. Assumes nothing.
use Rattle.std.specs.Prelude.{◌≡◌, ◌<◌, ℤ, ◌+ℤ◌, ◌-ℤ◌, ◌*ℤ◌}
use Rattle.std.specs.Int.{int_wrap, w64}
use Rattle.deals.specs.Contract.{down, million}
use Rattle.deals.specs.Promise.{size}

-- below 2^62 in size
abbrev pub Short : ℤ → Type 0
Short z = size z < 4611686018427387904

pub record Exact (a b : ℤ) : Type 0 where
  pub sums : Short (a +ℤ b) → int_wrap w64 (a +ℤ b) ≡ a +ℤ b
  pub differences : Short (a -ℤ b) → int_wrap w64 (a -ℤ b) ≡ a -ℤ b
  pub products : Short (a *ℤ b) → down (int_wrap w64 (a *ℤ b)) million ≡ down (a *ℤ b) million

abbrev pub ExactWhenShort : Type 0
ExactWhenShort = (a b : ℤ) → Exact a b
