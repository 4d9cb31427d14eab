-- How limits are worked out over nodes in a row. Assumes nothing: these are definitions.
use Rattle.std.specs.Prelude.{ℕ, zero, suc, ◌+◌, ◌*◌, ◌/◌, ◌<◌, ◌≤◌, Bool, true, false, List, length, Some, None, Option, nat_le, nat_lt, slice_index_or, unsigned_abs}
use Rattle.deals.specs.Contract.{pick, larger, million}
use Rattle.deals.specs.Promise.{below}
use Rattle.texts.specs.declared.limits.Measure.{Measure}
use Rattle.texts.specs.declared.nodes.Node.{Node}
use Rattle.texts.specs.declared.nodes.Node.TheVariants.{Nothing, Pays, Turned, Both, Choice, If, Of, On, When, By, Fixed, Rate, Day, Plus, Minus, Times, Max, Less}

-- how large a figure of one node can be, and one of two
abbrev pub leaf_size : Node → Option ℕ
leaf_size (Fixed a) = Some (unsigned_abs a)
leaf_size (Rate k n) = Some 1000000000
leaf_size Day = Some 65536
leaf_size Nothing = None
leaf_size (Pays k a) = None
leaf_size Turned = None
leaf_size Both = None
leaf_size Choice = None
leaf_size If = None
leaf_size Of = None
leaf_size (On d) = None
leaf_size When = None
leaf_size (By d) = None
leaf_size Plus = None
leaf_size Minus = None
leaf_size Times = None
leaf_size Max = None
leaf_size Less = None

abbrev pub joined_size : Node → ℕ → ℕ → Option ℕ
joined_size Plus e f = Some (e + f)
joined_size Minus e f = Some (e + f)
joined_size Max e f = Some (e + f)
joined_size Times e f = Some (suc (e * f / million))
joined_size Less e f = Some 1
joined_size Nothing e f = None
joined_size (Pays k a) e f = None
joined_size Turned e f = None
joined_size Both e f = None
joined_size Choice e f = None
joined_size If e f = None
joined_size Of e f = None
joined_size (On d) e f = None
joined_size When e f = None
joined_size (By d) e f = None
joined_size (Fixed a) e f = None
joined_size (Rate k n) e f = None
joined_size Day e f = None

abbrev pub below_32 : ℕ → ℕ → Option (ℕ × ℕ)
below_32 v next = pick (nat_lt v 4294967296) (Some (v, next)) None

-- how large the figure at a place can be, and where the nodes behind it begin; rest says it of those behind
abbrev pub largest_node : Node → ℕ → (ℕ → Option (ℕ × ℕ)) → Option (ℕ × ℕ)
largest_node node at rest =
    elim (leaf_size node) [
      | Some v ↦ below_32 v (at + 1)
      | None ↦
          elim (rest (at + 1)) [
            | None ↦ None
            | Some p ↦
                elim (rest p.1) [
                  | None ↦ None
                  | Some q ↦ elim (joined_size node p.0 q.0) [ None ↦ None | Some v ↦ below_32 v q.1 ]
                ]
          ]
    ]

unfoldable pub largest_at : List Node → ℕ → ℕ → Option (ℕ × ℕ)
largest_at ns zero at = None
largest_at ns (suc n) at = pick (nat_le (length ns) at) None (largest_node (slice_index_or ns at Nothing) at (largest_at ns n))

-- nothing passes its bounds
abbrev pub LargestLow : List Node → ℕ → ℕ × ℕ → Type 0
LargestLow ns at p = (p.0 < 4294967296) × (at < p.1) × (p.1 ≤ length ns)

-- the measure of a contract: of one node; of two parts; of one part and a figure that can be so large
abbrev pub single_measure : Node → ℕ → Option Measure
single_measure Nothing next = Some (record { moves = 0; parts = 0; deep = 0; next = next })
single_measure (Pays k a) next = Some (record { moves = unsigned_abs a; parts = 1; deep = 0; next = next })
single_measure Turned next = None
single_measure Both next = None
single_measure Choice next = None
single_measure If next = None
single_measure Of next = None
single_measure (On d) next = None
single_measure When next = None
single_measure (By d) next = None
single_measure (Fixed a) next = None
single_measure (Rate k n) next = None
single_measure Day next = None
single_measure Plus next = None
single_measure Minus next = None
single_measure Times next = None
single_measure Max next = None
single_measure Less next = None

abbrev pub scale_at : List Node → Node → ℕ → ℕ → Option (ℕ × ℕ)
scale_at ns Nothing n at = Some (0, at)
scale_at ns (Pays k a) n at = Some (0, at)
scale_at ns Turned n at = Some (0, at)
scale_at ns Both n at = Some (0, at)
scale_at ns Choice n at = Some (0, at)
scale_at ns If n at = largest_at ns n at
scale_at ns Of n at = largest_at ns n at
scale_at ns (On d) n at = Some (0, at)
scale_at ns When n at = largest_at ns n at
scale_at ns (By d) n at = Some (0, at)
scale_at ns (Fixed a) n at = Some (0, at)
scale_at ns (Rate k j) n at = Some (0, at)
scale_at ns Day n at = Some (0, at)
scale_at ns Plus n at = Some (0, at)
scale_at ns Minus n at = Some (0, at)
scale_at ns Times n at = Some (0, at)
scale_at ns Max n at = Some (0, at)
scale_at ns Less n at = Some (0, at)

abbrev pub is_pair : Node → Bool
is_pair Nothing = false
is_pair (Pays k a) = false
is_pair Turned = false
is_pair Both = true
is_pair Choice = true
is_pair If = true
is_pair Of = false
is_pair (On d) = false
is_pair When = false
is_pair (By d) = false
is_pair (Fixed a) = false
is_pair (Rate k n) = false
is_pair Day = false
is_pair Plus = false
is_pair Minus = false
is_pair Times = false
is_pair Max = false
is_pair Less = false

abbrev pub deep_of_two : Node → ℕ → ℕ
deep_of_two Nothing n = n
deep_of_two (Pays k a) n = n
deep_of_two Turned n = n
deep_of_two Both n = n
deep_of_two Choice n = larger 1 n
deep_of_two If n = n
deep_of_two Of n = n
deep_of_two (On d) n = n
deep_of_two When n = n
deep_of_two (By d) n = n
deep_of_two (Fixed a) n = n
deep_of_two (Rate k j) n = n
deep_of_two Day n = n
deep_of_two Plus n = n
deep_of_two Minus n = n
deep_of_two Times n = n
deep_of_two Max n = n
deep_of_two Less n = n

abbrev pub together : Node → Measure → Measure → Measure
together node x y = record { moves = x.moves + y.moves; parts = x.parts + y.parts; deep = deep_of_two node (larger (below x.deep) (below y.deep)); next = y.next }

abbrev pub alone : Node → ℕ → Measure → Option Measure
alone Nothing size x = None
alone (Pays k a) size x = None
alone Turned size x = Some (record { moves = x.moves; parts = x.parts; deep = below x.deep; next = x.next })
alone Both size x = None
alone Choice size x = None
alone If size x = None
alone Of size x = Some (record { moves = x.moves * size / million + x.parts; parts = x.parts; deep = below x.deep; next = x.next })
alone (On d) size x = Some (record { moves = x.moves; parts = x.parts; deep = below x.deep; next = x.next })
alone When size x = Some (record { moves = x.moves; parts = x.parts; deep = below x.deep; next = x.next })
alone (By d) size x = Some (record { moves = x.moves; parts = x.parts; deep = larger 1 (below x.deep); next = x.next })
alone (Fixed a) size x = None
alone (Rate k n) size x = None
alone Day size x = None
alone Plus size x = None
alone Minus size x = None
alone Times size x = None
alone Max size x = None
alone Less size x = None

abbrev pub bounded : Measure → Option Measure
bounded m = pick (nat_lt m.moves 1099511627776) (Some m) None

-- the measure of the contract at a place; scale says it of its figure, rest of the parts behind
abbrev pub measured_node : Node → ℕ → (ℕ → Option (ℕ × ℕ)) → (ℕ → Option Measure) → Option Measure
measured_node node at scale rest =
    elim (single_measure node (at + 1)) [
      | Some m ↦ bounded m
      | None ↦
          elim (scale (at + 1)) [
            | None ↦ None
            | Some p ↦
                elim (rest p.1) [
                  | None ↦ None
                  | Some x ↦
                      pick (is_pair node) (elim (rest x.next) [ None ↦ None | Some y ↦ bounded (together node x y) ])
                      (elim (alone node p.0 x) [ None ↦ None | Some m ↦ bounded m ])
                ]
          ]
    ]

unfoldable pub measured_at : List Node → ℕ → ℕ → Option Measure
measured_at ns zero at = None
measured_at ns (suc n) at = pick (nat_le (length ns) at) None (measured_node (slice_index_or ns at Nothing) at (scale_at ns (slice_index_or ns at Nothing) (suc n)) (measured_at ns n))

pub record MeasureLow (ns : List Node) (at : ℕ) (m : Measure) : Type 0 where
  pub moved : m.moves < 1099511627776
  pub few : m.parts + at ≤ m.next
  pub flat : m.deep + at ≤ m.next
  pub on : at < m.next
  pub within : m.next ≤ length ns
