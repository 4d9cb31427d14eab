-- A contract written anew: one of its texts. Assumes nothing: these are definitions.
use Rattle.std.specs.Prelude.{◌≡◌, ℕ, zero, suc, ◌+◌, List, ◌++◌, map, ℤ, pos, negsuc, codes}
use Rattle.std.specs.Int.Digits.{digits_of}
use Rattle.deals.specs.Contract.{Figure, fixed, rate, day, plus, minus, times, most, less, Contract, nothing, pays, turned, both, choice, either, scaled, on_day, when, by_day}
use Rattle.texts.specs.Text.{Text, RefusedAt}
use Rattle.texts.specs.Nodes.{ReadAs}
use Rattle.texts.specs.declared.nodes.Tree.{Tree}

abbrev pub written_number : ℕ → List ℕ
written_number zero = codes "0"
written_number (suc n) = map (λ d. 48 + d) (digits_of 10 (suc n))

abbrev pub written_amount : ℤ → List ℕ
written_amount (pos n) = written_number n
written_amount (negsuc n) = codes "-" ++ written_number (suc n)

-- rate k 0 is written rate k
abbrev pub written_rate : ℕ → ℕ → List ℕ
written_rate k zero = codes "rate " ++ written_number k
written_rate k (suc n) = codes "rate " ++ (written_number k ++ (codes " " ++ written_number (suc n)))

abbrev pub written_figure : Figure → List ℕ
written_figure (fixed a) = written_amount a
written_figure (rate k n) = written_rate k n
written_figure day = codes "day"
written_figure (plus e f) = codes "(" ++ (written_figure e ++ (codes " + " ++ (written_figure f ++ codes ")")))
written_figure (minus e f) = codes "(" ++ (written_figure e ++ (codes " - " ++ (written_figure f ++ codes ")")))
written_figure (times e f) = codes "(" ++ (written_figure e ++ (codes " * " ++ (written_figure f ++ codes ")")))
written_figure (most e f) = codes "max(" ++ (written_figure e ++ (codes ", " ++ (written_figure f ++ codes ")")))
written_figure (less e f) = codes "(" ++ (written_figure e ++ (codes " < " ++ (written_figure f ++ codes ")")))

abbrev pub written : Contract → List ℕ
written nothing = codes "nothing"
written (pays k a) = codes "pays " ++ (written_amount a ++ (codes " " ++ written_number k))
written (turned x) = codes "turned(" ++ (written x ++ codes ")")
written (both x y) = codes "both(" ++ (written x ++ (codes ", " ++ (written y ++ codes ")")))
written (choice x y) = codes "choice(" ++ (written x ++ (codes ", " ++ (written y ++ codes ")")))
written (either e x y) = codes "if " ++ (written_figure e ++ (codes " then " ++ (written x ++ (codes " else " ++ written y))))
written (scaled e x) = written_figure e ++ (codes " of " ++ written x)
written (on_day d x) = codes "on " ++ (written_number d ++ (codes ": " ++ written x))
written (when e x) = codes "when " ++ (written_figure e ++ (codes ": " ++ written x))
written (by_day d x) = codes "by " ++ (written_number d ++ (codes ": " ++ written x))

-- every contract has a text
abbrev pub HasText : Type 0
HasText = (x : Contract) → Text x (written x)

-- a contract written anew is not refused, and is read as it
abbrev pub ReadAgain : Type 0
ReadAgain = ((x : Contract) (place : ℕ) → RefusedAt (written x) place → ⊥) × ((x y : Contract) (t : Tree) → ReadAs (written x) t y → y ≡ x)

-- a text is one contract's at most
abbrev pub OneAtMost : Type 0
OneAtMost = (s : List ℕ) (x y : Contract) → Text x s → Text y s → y ≡ x
