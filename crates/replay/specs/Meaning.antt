-- When what is read from the kept bytes is what the days say, what a figure is worth over them, and of some flows those of one day. Assumes nothing: these are definitions.
use Rattle.std.specs.Prelude.{◌≡◌, ℕ, ◌+◌, ◌<◌, ◌≤◌, Bool, List, [], ◌∷◌, length, get_or, ℤ, pos, ◌==◌, slice_index_or}
use Rattle.std.specs.List.{AllByRecursion}
use Rattle.deals.specs.Contract.{Figure, Day, Flow, Path, pick, no_day, value, chosen}
use Rattle.deals.specs.Residual.{Due as DealDue}
use Rattle.deals.specs.Promise.{FigureFits}
use Rattle.deals.specs.Short.{RatesFit}
use Rattle.texts.specs.Nodes.{figure_nodes}
use Rattle.texts.specs.declared.nodes.Node.{Node}
use Rattle.replay.specs.declared.days.DayAt.{DayAt}
use Rattle.replay.specs.declared.choices.Way.{Way}
use Rattle.replay.specs.declared.dues.Due.{Due}
use Rattle.replay.specs.Days.{rate_on}
use Rattle.replay.specs.Parts.{Stands}
use Rattle.replay.specs.Choices.{way_of, chosen_on}

-- rates, as they are read, are those of the days
abbrev pub RatesAre : ℕ → (ℕ → ℕ → ℤ) → List Day → Type 0
RatesAre rs rates ds = (u k : ℕ) → u < length ds → k < rs → rates u k ≡ slice_index_or (get_or ds u no_day).rates k (pos 0)

-- a way of steps 0 and 1
abbrev pub Bits : Path → Type 0
Bits p = AllByRecursion (λ b. b ≤ 1) p

-- choices, as they are read, are those of the days
abbrev pub ChosenAre : (ℕ → Way → Bool) → List Day → ℕ → Type 0
ChosenAre chose ds c = (t : ℕ) (p : Path) → t < length ds → Bits p → chose t (way_of p) ≡ chosen ds t c p

-- some days in bounds, with so many rates, are what is read from the kept bytes
pub record DaysAre (rs : ℕ) (kept : List ℕ) (days : List DayAt) (ds : List Day) : Type 0 where
  pub many : length days ≡ length ds
  pub some : 1 ≤ length ds
  pub early : length ds ≤ 65536
  pub few : rs ≤ 256
  pub small : RatesFit ds
  pub rates : RatesAre rs (rate_on kept days) ds
  pub choices : (c : ℕ) → ChosenAre (chosen_on kept days c) ds c

-- a number is the value on day t of each figure within the limits whose nodes stand from place i on, over the days that are kept
abbrev pub Worth : List ℕ → List DayAt → (ℕ → Node) → ℕ → ℕ → ℤ → Type 0
Worth kept days node t i v =
    (rs : ℕ) (ds : List Day) (e : Figure) → DaysAre rs kept days ds → t < length ds → FigureFits rs e → Stands node i (figure_nodes e) → i + length (figure_nodes e) ≤ 256 → v ≡ value ds t e

-- of some flows those of one day
abbrev pub due_of : Flow → Due
due_of f = record { currency = f.currency; amount = f.amount }

unfoldable pub dues_on : ℕ → List Flow → List Due
dues_on u [] = []
dues_on u (f ∷ fs) = pick (f.on == u) (due_of f ∷ dues_on u fs) (dues_on u fs)

abbrev pub as_due : Due → DealDue
as_due d = record { currency = d.currency; amount = d.amount }
