-- Which contract stands among a deal's nodes, which rows and entries its bytes stand for, and so what is left of it. Assumes nothing: these are definitions.
use Rattle.std.specs.Prelude.{◌≡◌, ℕ, suc, ◌+◌, ◌<◌, ◌≤◌, true, List, [], ◌∷◌, length, ℤ, pos, ◌+ℤ◌, Some, Option, slice_index_or}
use Rattle.std.specs.Int.{int_wrap, w64}
use Rattle.deals.specs.Contract.{Contract, nothing, pays, turned, both, on_day}
use Rattle.deals.specs.Promise.{thin, ContractFits}
use Rattle.deals.specs.Residual.{turn, scale, Waits, starts, first_true, by_choice, Today, come_to}
use Rattle.deals.specs.Residual as model
use Rattle.deals.specs.Shared.{Entry, Slot, SlotsIn, shared_steps}
use Rattle.deals.specs.Sleep.{wake}
use Rattle.texts.specs.declared.nodes.Node.{Node as Mark}
use Rattle.texts.specs.Nodes.{nodes_of}
use Rattle.residual.specs.declared.cells.Row.{Row}
use Rattle.residual.specs.declared.cells.Node.TheVariants as node
use Rattle.residual.specs.declared.deal.Summary.{Summary}
use Rattle.residual.specs.Layout.{row_at, node_at, above_at}

-- from a place up to another stands a contract: each part right behind what is above it, the second of two where the first ends
pub data Stands (s : List ℕ) : ℕ → ℕ → Contract → Type 0 where
  is_nothing : {i : ℕ} → node_at s i ≡ node.Nothing → Stands s i (i + 1) nothing
  is_pays : {i k : ℕ} {a : ℤ} → node_at s i ≡ node.Pays k a → Stands s i (i + 1) (pays k a)
  is_turned : {i e : ℕ} {x : Contract} → node_at s i ≡ node.Turned → Stands s (i + 1) e x → Stands s i e (turned x)
  is_both : {i q e : ℕ} {x y : Contract} → node_at s i ≡ node.Both q → Stands s (i + 1) q x → Stands s q e y → Stands s i e (both x y)
  is_on_day : {i e d : ℕ} {x : Contract} → node_at s i ≡ node.OnDay d → d < 65536 → Stands s (i + 1) e x → Stands s i e (on_day d x)

-- an entry, as the bytes have it
abbrev pub Coded : Option ℕ → model.Above → ℕ → Type 0
Coded a turn over = a ≡ Some over
Coded a (scale v) over = ⊥

-- the entries, the newest first; each names an older one, or none
unfoldable pub Table : List ℕ → List Entry → Type 0
Table s [] = Unit {0}
Table s (e ∷ older) = Coded (above_at s (suc (length older))) e.what e.over × (e.over ≤ length older) × Table s older

-- what a row waits for: its day, and then the contract that stands where it says
abbrev pub Awaited : List ℕ → Row → Waits → Type 0
Awaited s r (starts d x) = (r.day ≡ d) × (d < 65536) × Stands s r.part r.end x × (r.end ≤ 256)
Awaited s r (first_true e x) = ⊥
Awaited s r (by_choice d x) = ⊥

-- the rows from place k on
unfoldable pub Rows : List ℕ → ℕ → List Slot → Type 0
Rows s k [] = Unit {0}
Rows s k (r ∷ rest) = ((row_at s k).above ≡ r.entry) × Awaited s (row_at s k) r.waits × Rows s (k + 1) rest

-- so many entries and rows, and the day of the first row
pub record LeftStands (s : List ℕ) (l : Summary) (es : List Entry) (slots : List Slot) : Type 0 where
  pub rows_are : l.rows ≡ length slots
  pub used_are : l.used ≡ length es
  pub wake_is : l.wake ≡ wake slots
  pub table : Table s es
  pub inside : SlotsIn es slots
  pub rows : Rows s 0 slots

-- a deal's part, with what is kept of it elsewhere, holds what is left of the deal. Where nothing is left the part may be anything
pub record Holds (s : List ℕ) (k : Summary) (es : List Entry) (slots : List Slot) : Type 0 where
  pub rows_are : k.rows ≡ length slots
  pub wake_is : k.wake ≡ wake slots
  pub few : length slots ≤ 96
  pub stands : 0 < length slots → LeftStands s k es slots

-- a deal was woken on a day: its part holds what is then left, and what is due is added up, modulo 2^64, currency by currency
pub record Woken (n : Today) (es : List Entry) (slots : List Slot) (k' : Summary) (s' : List ℕ) (due due' : List ℤ) : Type 0 where
  pub holds : Holds s' k' (shared_steps n slots es).entries (shared_steps n slots es).slots
  pub paid : (q : ℕ) → q < length due → int_wrap w64 (slice_index_or due' q (pos 0)) ≡ int_wrap w64 (slice_index_or due q (pos 0) +ℤ come_to q (shared_steps n slots es).now)

-- so it is for every deal that the part can hold, if its rows and entries find room
abbrev pub Wakes : ℕ → Summary → Summary → List ℕ → List ℤ → List ℕ → List ℤ → Type 0
Wakes t k k' s due s' due' =
    (n : Today) (es : List Entry) (slots : List Slot) → n.number ≡ t → 12288 ≤ length s → Holds s k es slots → length (shared_steps n slots es).slots ≤ 96 → length (shared_steps n slots es).entries ≤ 255 →
    Woken n es slots k' s' due due'

-- a deal that is new: all of its contract waits for the day on which it begins
abbrev pub Opens : ℕ → List Mark → Summary → List ℕ → List ℕ → Type 0
Opens from marks k s s' =
    (x : Contract) (rs cs : ℕ) → marks ≡ nodes_of x → ContractFits rs cs x → cs ≤ 65536 → thin x ≡ true → from < 65536 → 12288 ≤ length s →
    Holds s' k [] (record { entry = 0; way = []; waits = starts from x } ∷ [])

-- nothing is opened: nothing waits, and the part is as it was
abbrev pub OpensNone : Summary → List ℕ → List ℕ → Type 0
OpensNone k s s' = (k ≡ record { wake = 65536; rows = 0; used = 0 }) × (s' ≡ s)

-- nothing is woken: all is as it was
abbrev pub WakesNone : Summary → Summary → List ℕ → List ℤ → List ℕ → List ℤ → Type 0
WakesNone k k' s due s' due' = (k' ≡ k) × (s' ≡ s) × (due' ≡ due)
