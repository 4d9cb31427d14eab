-- Where things lie in a deal's part of the lent bytes, 16 bytes each: up to 96 rows from the front on, the 256 nodes of the contract from 1,536 on, and from 5,632 on
-- up to 256 entries for what stands above a part. Assumes nothing: these are definitions.
use Rattle.std.specs.Prelude.{ℕ, ◌+◌, ◌*◌, List, map, ◌==◌, nat_lt, Some, None, Option}
use Rattle.std.specs.List.{range_with_len}
use Rattle.std.specs.Int.{w64}
use Rattle.std.proofs.Common.{to_z, of_z}
use Rattle.octets.specs.Octets.{word, put_word}
use Rattle.deals.specs.Contract.{pick}
use Rattle.residual.specs.declared.cells.Row.{Row}
use Rattle.residual.specs.declared.cells.Node.{Node}
use Rattle.residual.specs.declared.cells.Node.TheVariants.{Nothing, Pays, Turned, Both, OnDay}

abbrev pub node_place : ℕ → ℕ
node_place i = 1536 + 16 * i

abbrev pub above_place : ℕ → ℕ
above_place j = 5632 + 16 * j

-- a row: its day, where its part of the contract begins and ends, and the entry of what stands above it
unfoldable pub row_at : List ℕ → ℕ → Row
row_at s k = record { day = word 4 s (16 * k); part = word 2 s (16 * k + 4); end = word 2 s (16 * k + 6); above = word 2 s (16 * k + 8) }

unfoldable pub put_row : List ℕ → ℕ → Row → List ℕ
put_row s k r = put_word 2 (put_word 2 (put_word 2 (put_word 4 s (16 * k) r.day) (16 * k + 4) r.part) (16 * k + 6) r.end) (16 * k + 8) r.above

-- the first n rows
abbrev pub first_rows : List ℕ → ℕ → List Row
first_rows s n = map (row_at s) (range_with_len 0 n)

-- a node: what it is, a currency, where its second part begins, and an amount or a day
unfoldable pub node_in : List ℕ → ℕ → Node
node_in s o =
    pick (word 2 s o == 1) (Pays (word 2 s (o + 2)) (to_z w64 (word 8 s (o + 8))))
    (pick (word 2 s o == 2) Turned
    (pick (word 2 s o == 3) (Both (word 2 s (o + 4)))
    (pick (word 2 s o == 4) (OnDay (word 4 s (o + 8)))
    Nothing)))

unfoldable pub node_at : List ℕ → ℕ → Node
node_at s i = pick (nat_lt i 256) (node_in s (node_place i)) Nothing

unfoldable pub put_node : List ℕ → ℕ → Node → List ℕ
put_node s i Nothing = put_word 2 s (node_place i) 0
put_node s i (Pays k a) = put_word 8 (put_word 2 (put_word 2 s (node_place i) 1) (node_place i + 2) k) (node_place i + 8) (of_z w64 a)
put_node s i Turned = put_word 2 s (node_place i) 2
put_node s i (Both q) = put_word 2 (put_word 2 s (node_place i) 3) (node_place i + 4) q
put_node s i (OnDay d) = put_word 4 (put_word 2 s (node_place i) 4) (node_place i + 8) d

-- what stands above a part, by the number of its entry: it is turned, and this is the entry of what stands above that. Nothing for 0 and for what is no entry
unfoldable pub above_in : List ℕ → ℕ → Option ℕ
above_in s o = pick (word 2 s o == 1) (Some (word 2 s (o + 2))) None

unfoldable pub above_at : List ℕ → ℕ → Option ℕ
above_at s j = pick (nat_lt 0 j) (pick (nat_lt j 256) (above_in s (above_place j)) None) None

-- turned, and what is above that
unfoldable pub put_turn : List ℕ → ℕ → ℕ → List ℕ
put_turn s j over = put_word 2 (put_word 2 s (above_place j) 1) (above_place j + 2) over
