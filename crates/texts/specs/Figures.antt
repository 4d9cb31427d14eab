-- How figures are read: each with the byte behind it. Assumes nothing: these are definitions.
use Rattle.std.specs.Prelude.{◌≡◌, ℕ, ◌⊎◌, [], ◌∷◌, ◌≢◌}
use Rattle.deals.specs.Contract.{Figure, plus, minus, times, less}
use Rattle.texts.specs.Text.{Language, ◌then◌, Number, FigureText}
use Rattle.texts.specs.Reading.{Word}
use Rattle.texts.specs.declared.nodes.Node.{Node}
use Rattle.texts.specs.declared.nodes.Node.TheVariants.{Plus, Minus, Times, Less}
use Rattle.texts.specs.declared.figures.FigureOpening.{FigureOpening}
use Rattle.texts.specs.declared.figures.FigureOpening.TheVariants.{Bracket, Max, Rate, Day, Number as Plain}

-- a figure and the byte that ends it
abbrev pub Ended : ℕ → Figure → Language
Ended end e = FigureText e then Word (end ∷ []) tt

-- what stands behind the k of a rate
abbrev pub RateEnding : ℕ → ℕ → Language
RateEnding end n w = (Word (32 ∷ []) tt then Number n then Word (end ∷ []) tt) w ⊎ ((n ≡ 0) × (w ≡ end ∷ []))

-- what stands between two figures in brackets
pub data Operator : Type 0 where
  add : Operator
  subtract : Operator
  multiply : Operator
  compare : Operator

abbrev pub operator_byte : Operator → ℕ
operator_byte add = 43
operator_byte subtract = 45
operator_byte multiply = 42
operator_byte compare = 60

abbrev pub OperatorText : Operator → Language
OperatorText o = Word (operator_byte o ∷ []) tt

abbrev pub operator_node : Operator → Node
operator_node add = Plus
operator_node subtract = Minus
operator_node multiply = Times
operator_node compare = Less

abbrev pub applied : Operator → Figure → Figure → Figure
applied add e f = plus e f
applied subtract e f = minus e f
applied multiply e f = times e f
applied compare e f = less e f

-- the first byte of a figure
abbrev pub OpensFigure : FigureOpening → ℕ → Type 0
OpensFigure Bracket b = b ≡ 40
OpensFigure Max b = b ≡ 109
OpensFigure Rate b = b ≡ 114
OpensFigure Day b = b ≡ 100
OpensFigure Plain b = (b ≢ 40) × (b ≢ 109) × (b ≢ 114) × (b ≢ 100)
