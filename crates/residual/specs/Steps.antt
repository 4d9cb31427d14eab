-- What the code does to a deal's part, step by step, as definitions: a part of the contract begins, rows wake. What that means is said in Deal. Assumes nothing.
use Rattle.std.specs.Prelude.{ℕ, zero, suc, ◌+◌, min, max, List, [], ◌∷◌, length, ℤ, pos, ◌+ℤ◌, neg_ℤ, ◌==◌, nat_lt, Some, None, Option, slice_index_or, slice_set}
use Rattle.std.specs.Int.{int_wrap, w64}
use Rattle.deals.specs.Contract.{pick}
use Rattle.residual.specs.declared.cells.Row.{Row}
use Rattle.residual.specs.declared.cells.Node.{Node}
use Rattle.residual.specs.declared.cells.Node.TheVariants.{Nothing, Pays, Turned, Both, OnDay}
use Rattle.residual.specs.declared.deal.Summary.{Summary}
use Rattle.residual.specs.Layout.{put_row, node_at, above_at, put_turn}

-- a deal's part, how many rows and entries it has now, and what is due in each currency
pub record State : Type 0 where
  pub bytes : List ℕ
  pub left : Summary
  pub due : List ℤ

abbrev pub state : List ℕ → Summary → List ℤ → State
state s k due = record { bytes = s; left = k; due = due }

-- an amount more in a currency, if there is such a one
unfoldable pub with_due : List ℤ → ℕ → ℤ → List ℤ
with_due due k a = pick (nat_lt k (length due)) (slice_set due k (int_wrap w64 (slice_index_or due k (pos 0) +ℤ a))) due

-- an amount seen through what stands above, from entry j on; at most n entries
unfoldable pub by_above : (ℕ → ℤ → ℤ) → ℤ → Option ℕ → ℤ
by_above go a None = a
by_above go a (Some over) = go over (int_wrap w64 (neg_ℤ a))

unfoldable pub seen_through : ℕ → List ℕ → ℕ → ℤ → ℤ
seen_through zero s j a = a
seen_through (suc n) s j a = by_above (seen_through n s) a (above_at s j)

-- one more row, and one more entry, while there is room
unfoldable pub with_row : State → Row → State
with_row st r =
    pick (nat_lt st.left.rows 96)
    (record {
      bytes = put_row st.bytes st.left.rows r;
      left = record { rows = st.left.rows + 1; used = st.left.used; wake = min st.left.wake r.day };
      due = st.due;
    })
    st

unfoldable pub with_turn : State → ℕ → State
with_turn st over =
    record {
      bytes = put_turn st.bytes (st.left.used + 1) over;
      left = record { rows = st.left.rows; used = st.left.used + 1; wake = st.left.wake };
      due = st.due;
    }

-- what a node does on day t, by what the parts under it do: it stands at place i, its part ends at place e, and j is the entry of what stands above it. Of two parts the
-- second is kept between the ends, so that parts lie side by side whatever the bytes are
unfoldable pub by_node : (ℕ → ℕ → ℕ → State → State) → ℕ → ℕ → ℕ → ℕ → State → Node → State
by_node go t i e j st Nothing = st
by_node go t i e j st (Pays k a) = record { bytes = st.bytes; left = st.left; due = with_due st.due k (seen_through 256 st.bytes j a) }
by_node go t i e j st Turned = pick (nat_lt st.left.used 255) (go (i + 1) e (st.left.used + 1) (with_turn st j)) st
by_node go t i e j st (Both q) = let second = max (min q e) (i + 1) in go second e j (go (i + 1) second j st)
by_node go t i e j st (OnDay d) =
    pick (nat_lt t d) (with_row st (record { day = d; part = i + 1; end = e; above = j })) (pick (t == d) (go (i + 1) e j st) st)

-- the part from place i up to place e begins on day t; at most n deep
unfoldable pub begun : ℕ → ℕ → ℕ → ℕ → ℕ → State → State
begun zero t i e j st = st
begun (suc n) t i e j st = pick (nat_lt i e) (by_node (λ i' e' j' st'. begun n t i' e' j' st') t i e j st (node_at st.bytes i)) st

-- one row on day t: before its day it goes on waiting, on it its part begins
unfoldable pub row_woken : ℕ → Row → State → State
row_woken t r st = pick (nat_lt t r.day) (with_row st r) (pick (t == r.day) (begun 256 t r.part r.end r.above st) st)

-- rows, one after the other
unfoldable pub woken : ℕ → List Row → State → State
woken t [] st = st
woken t (r ∷ rows) st = woken t rows (row_woken t r st)
