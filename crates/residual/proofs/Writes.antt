-- Rows, nodes and entries, written into a deal's part and read again, and what a write leaves.
use Rattle.std.proofs.Common.{◌≡◌, ℕ, ◌+◌, ◌*◌, ◌<◌, ◌≤◌, ◌≢◌, ◌⊎◌, List, length, ℤ, pos, negsuc, inl, inr, ⊎_elim, arith, w64, SFits, of_z}
use Rattle.std.specs.Prelude.{Some}
use Rattle.std.proofs.lemmas.Int.{to_z-of_z}
use Rattle.std.proofs.lemmas.Bool.{cases_lt}
use Rattle.std.proofs.lemmas.Bool.Decides.{nat_tests}
use Rattle.octets.specs.Octets.{word}
use Rattle.octets.proofs.Words.{length_put_word, word_put_same, word_put_apart}
use Rattle.residual.specs.declared.cells.Row.{Row}
use Rattle.residual.specs.declared.cells.Node.{Node}
use Rattle.residual.specs.declared.cells.Node.TheVariants.{Nothing, Pays, Turned, Both, OnDay}
use Rattle.residual.specs.Layout.{row_at, put_row, node_in, node_at, put_node, above_in, above_at, put_turn, node_place, above_place}

-- words that lie apart from the n bytes at an offset are as they were, and so is the length
pub record Apart (s s' : List ℕ) (o n : ℕ) : Type 0 where
  pub long : length s' ≡ length s
  pub same : (m j : ℕ) → j + m ≤ length s → (j + m ≤ o) ⊎ (o + n ≤ j) → word m s' j ≡ word m s j

ruleset writes = (length_put_word, word_put_same, word_put_apart)

-- a row that was written is there, and all else is as it was
pub row_put : (s : List ℕ) (k : ℕ) (r : Row) → 16 * k + 16 ≤ length s → r.day < 4294967296 → r.part < 65536 → r.end < 65536 → r.above < 65536 → row_at (put_row s k r) k ≡ r
unfolding row_at put_row
row_put s k r h d p e a =
    grind (arith, writes)

pub row_apart : (s : List ℕ) (k : ℕ) (r : Row) → 16 * k + 16 ≤ length s → Apart s (put_row s k r) (16 * k) 16
unfolding put_row
row_apart s k r h = record { long = grind (arith, writes); same = λ m j g a. grind (arith, writes) }

-- an entry likewise
pub turn_put : (s : List ℕ) (j over : ℕ) → 0 < j → j < 256 → 12288 ≤ length s → over < 65536 → above_at (put_turn s j over) j ≡ Some over
unfolding above_at above_in put_turn
turn_put s j over some few h small = grind (arith, nat_tests, writes)

pub turn_apart : (s : List ℕ) (j over : ℕ) → j < 256 → 12288 ≤ length s → Apart s (put_turn s j over) (above_place j) 16
unfolding put_turn
turn_apart s j over few h = record { long = grind (arith, writes); same = λ m j g a. grind (arith, writes) }

-- what is read at a place depends on the bytes there alone
abbrev pub Beside : ℕ → ℕ → ℕ → Type 0
Beside o n p = (p + 16 ≤ o) ⊎ (o + n ≤ p)

-- the 16 bytes at a place say the same
abbrev pub CellSame : List ℕ → List ℕ → ℕ → Type 0
CellSame s s' p = (m j : ℕ) → p ≤ j → j + m ≤ p + 16 → word m s' j ≡ word m s j

cell_beside : {s s' : List ℕ} {o n : ℕ} → Apart s s' o n → (p : ℕ) → p + 16 ≤ length s → Beside o n p → CellSame s s' p
cell_beside a p h beside m j ge le = a.same m j (omega arith) (⊎_elim (λ l. inl (omega arith)) (λ l. inr (omega arith)) beside)

pub row_cell : (s s' : List ℕ) (k : ℕ) → CellSame s s' (16 * k) → row_at s' k ≡ row_at s k
unfolding row_at
row_cell s s' k same = grind (arith, same)

pub node_cell : (s s' : List ℕ) (i : ℕ) → (i < 256 → CellSame s s' (node_place i)) → node_at s' i ≡ node_at s i
unfolding node_at node_in
node_cell s s' i same = grind (arith, nat_tests, same)

pub above_cell : (s s' : List ℕ) (j : ℕ) → (j < 256 → CellSame s s' (above_place j)) → above_at s' j ≡ above_at s j
unfolding above_at above_in
above_cell s s' j same = grind (arith, nat_tests, same)

pub row_same : {s s' : List ℕ} {o n : ℕ} → Apart s s' o n → (k : ℕ) → 16 * k + 16 ≤ length s → Beside o n (16 * k) → row_at s' k ≡ row_at s k
row_same {s} {s'} a k h beside = row_cell s s' k (cell_beside a (16 * k) h beside)

pub node_same : {s s' : List ℕ} {o n : ℕ} → Apart s s' o n → 12288 ≤ length s → (o + n ≤ 1536) ⊎ (5632 ≤ o) → (i : ℕ) → node_at s' i ≡ node_at s i
node_same {s} {s'} a long outside i = node_cell s s' i (λ lt. cell_beside a (node_place i) (omega arith) (⊎_elim (λ l. inr (omega arith)) (λ l. inl (omega arith)) outside))

pub above_same : {s s' : List ℕ} {o n : ℕ} → Apart s s' o n → 12288 ≤ length s → (j : ℕ) → Beside o n (above_place j) → above_at s' j ≡ above_at s j
above_same {s} {s'} a long j beside = above_cell s s' j (λ lt. cell_beside a (above_place j) (omega arith) beside)

bits_fit : (a : ℤ) → SFits w64 a → of_z w64 a < 18446744073709551616
bits_fit (pos n) h = omega arith
bits_fit (negsuc n) h = omega arith

-- a node likewise: what can be written of one
pub data Writable : Node → Type 0 where
  nothing_is : Writable Nothing
  pays_is : {k : ℕ} {a : ℤ} → k < 65536 → SFits w64 a → Writable (Pays k a)
  turned_is : Writable Turned
  both_is : {q : ℕ} → q < 65536 → Writable (Both q)
  on_day_is : {d : ℕ} → d < 4294967296 → Writable (OnDay d)

pub node_apart : (s : List ℕ) (i : ℕ) (v : Node) → i < 256 → 12288 ≤ length s → Apart s (put_node s i v) (node_place i) 16
unfolding put_node
node_apart s i Nothing few h = record { long = grind (arith, writes); same = λ m j g a. grind (arith, writes) }
node_apart s i (Pays k a) few h = record { long = grind (arith, writes); same = λ m j g a. grind (arith, writes) }
node_apart s i Turned few h = record { long = grind (arith, writes); same = λ m j g a. grind (arith, writes) }
node_apart s i (Both q) few h = record { long = grind (arith, writes); same = λ m j g a. grind (arith, writes) }
node_apart s i (OnDay d) few h = record { long = grind (arith, writes); same = λ m j g a. grind (arith, writes) }

pub node_put : (s : List ℕ) (i : ℕ) (v : Node) → i < 256 → 12288 ≤ length s → Writable v → node_at (put_node s i v) i ≡ v
unfolding put_node node_at node_in
node_put s i Nothing few h w = grind (arith, nat_tests, writes)
node_put s i (Pays k a) few h (pays_is small fits) = grind (arith, nat_tests, writes, bits_fit, to_z-of_z)
node_put s i Turned few h w = grind (arith, nat_tests, writes)
node_put s i (Both q) few h (both_is small) = grind (arith, nat_tests, writes)
node_put s i (OnDay d) few h (on_day_is small) = grind (arith, nat_tests, writes)

pub node_other : {s s' : List ℕ} {i : ℕ} → Apart s s' (node_place i) 16 → 12288 ≤ length s → (j : ℕ) → j ≢ i → node_at s' j ≡ node_at s j
node_other {s} {s'} {i} a long j ne =
    node_cell s s' j (λ lt. cell_beside a (node_place j) (omega arith) (⊎_elim (λ l. inl (omega arith)) (λ l. inr (omega arith)) (cases_lt j i)))
