-- Which nodes stand from a place on, and where a part of a contract ends in the row of its nodes. Assumes nothing: these are definitions.
use Rattle.std.specs.Prelude.{◌≡◌, ℕ, zero, suc, ◌+◌, ◌-◌, List, [], ◌∷◌, slice_index_or}
use Rattle.texts.specs.declared.nodes.Node.{Node}
use Rattle.texts.specs.declared.nodes.Node.TheVariants.{Nothing, Pays, Turned, Both, Choice, If, Of, On, When, By, Fixed, Rate, Day, Plus, Minus, Times, Max, Less}

-- the node at a place; past the end it is nothing
abbrev pub node_in : List Node → ℕ → Node
node_in ns i = slice_index_or ns i Nothing

-- from place i on stand these nodes
unfoldable pub Stands : (ℕ → Node) → ℕ → List Node → Type 0
Stands node i [] = Unit {0}
Stands node i (n ∷ ns) = (node i ≡ n) × Stands node (i + 1) ns

-- how many parts stand right within a node
abbrev pub within : Node → ℕ
within Nothing = 0
within (Pays k a) = 0
within Turned = 1
within Both = 2
within Choice = 2
within If = 3
within Of = 2
within (On d) = 1
within When = 2
within (By d) = 1
within (Fixed a) = 0
within (Rate k n) = 0
within Day = 0
within Plus = 2
within Minus = 2
within Times = 2
within Max = 2
within Less = 2

-- from place i on, with so many parts still to come, of n nodes at most
unfoldable pub passed : (ℕ → Node) → ℕ → ℕ → ℕ → ℕ
passed node zero more i = i
passed node (suc n) zero i = i
passed node (suc n) (suc more) i = passed node n (more + within (node i)) (i + 1)

-- the place behind the part at place i
unfoldable pub behind : (ℕ → Node) → ℕ → ℕ
behind node i = passed node (256 - i) 1 i
