-- How far the house is built. Assumes nothing: these are definitions.
use Rattle.std.specs.Prelude.{◌≡◌, ℕ, Bool, true, false, List}
use Rattle.std.specs.List.{list_all}
use Rattle.deals.specs.Contract.{Contract}
use Rattle.deals.specs.Promise.{ContractFits, thin}
use Rattle.texts.specs.declared.stages.Stage.{Stage}
use Rattle.texts.specs.declared.stages.Stage.TheVariants.{Thin, All}
use Rattle.texts.specs.declared.nodes.Node.{Node}
use Rattle.texts.specs.declared.nodes.Node.TheVariants.{Nothing, Pays, Turned, Both, Choice, If, Of, On, When, By, Fixed, Rate, Day, Plus, Minus, Times, Max, Less}

-- which contracts are taken at each stage
abbrev pub built_at : Stage → Contract → Bool
built_at Thin x = thin x
built_at All x = true

-- AS A LAW: every contract of the thin house that is in bounds is taken at every stage
abbrev pub ThinTaken : Type 0
ThinTaken = (stage : Stage) (rs cs : ℕ) (x : Contract) → ContractFits rs cs x → thin x ≡ true → built_at stage x ≡ true

-- the nodes of such contracts
abbrev pub thin_node : Node → Bool
thin_node Nothing = true
thin_node (Pays k a) = true
thin_node Turned = true
thin_node Both = true
thin_node Choice = false
thin_node If = false
thin_node Of = false
thin_node (On d) = true
thin_node When = false
thin_node (By d) = false
thin_node (Fixed a) = false
thin_node (Rate k n) = false
thin_node Day = false
thin_node Plus = false
thin_node Minus = false
thin_node Times = false
thin_node Max = false
thin_node Less = false

abbrev pub all_thin : List Node → Bool
all_thin ns = list_all thin_node ns
