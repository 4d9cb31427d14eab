-- Payments of a pair, and payments behind one another in bytes. Assumes nothing: these are definitions.
use Rattle.std.specs.Prelude.{◌≡◌, ℕ, ◌+◌, ◌*◌, ◌<◌, ◌≤◌, List, ◌++◌, map, length, drop, ℤ, pos, slice_index_or}
use Rattle.std.specs.Int.{int_wrap, w64}
use Rattle.deals.specs.Lines.{pair_lines}
use Rattle.deals.specs.Payments.{Payment as Paid, written}
use Rattle.mornings.specs.Payments.{payments_bytes}
use Rattle.mornings.specs.Pairs.{as_bytes}
use Rattle.settlement.specs.Keeping.{net_of}

-- so many payments stand at the front of the bytes, and behind them these are as they were
pub record Written (was : List ℕ) (ps : List Paid) (n : ℕ) (s : List ℕ) : Type 0 where
  pub count : n ≡ length ps
  pub bytes : s ≡ payments_bytes (map as_bytes ps) ++ drop (13 * n) was

-- the payments of a pair, the lower house first
unfoldable pub pair_payments : ℕ → ℕ → ℕ → (ℕ → ℤ) → List Paid
pair_payments cs a b sums = map written (pair_lines cs a b sums)

pub record PairPaid (was : List ℕ) (ps : List Paid) (r : ℕ) (gets' gives' : List ℤ) (s' : List ℕ) : Type 0 where
  pub written_all : Written was ps r s'
  pub gets : (k : ℕ) → k < length gets' → slice_index_or gets' k (pos 0) ≡ pos 0
  pub gives : (k : ℕ) → k < length gives' → slice_index_or gives' k (pos 0) ≡ pos 0

-- what a pair has come to is paid, if 64 bits give it in full and there is room, and begins again from 0
abbrev pub PaysPair : ℕ → ℕ → ℕ → List ℤ → List ℤ → List ℕ → ℕ → List ℤ → List ℤ → List ℕ → Type 0
PaysPair a b n gets gives s r gets' gives' s' =
    (was : List ℕ) (ps : List Paid) (sums : ℕ → ℤ) → Written was ps n s → ((k : ℕ) → k < length gets → int_wrap w64 (net_of gets gives k) ≡ sums k) →
    13 * n + 13 * length (pair_payments (length gets) a b sums) ≤ length was → PairPaid was (ps ++ pair_payments (length gets) a b sums) r gets' gives' s'
