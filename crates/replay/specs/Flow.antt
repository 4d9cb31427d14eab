-- What flows on a day under a contract, by its nodes, as the code works it out. Assumes nothing: these are definitions.
use Rattle.std.specs.Prelude.{ℕ, zero, suc, ◌+◌, ◌-◌, Bool, ◌&&◌, List, [], ◌∷◌, ◌++◌, map, length, ℤ, Some, None, Option, ◌==◌, nat_le, nat_lt}
use Rattle.std.specs.Option.{option_map}
use Rattle.deals.specs.Contract.{pick, is_zero, first_day}
use Rattle.texts.specs.declared.nodes.Node.{Node}
use Rattle.texts.specs.declared.nodes.Node.TheVariants.{Nothing, Pays, Turned, Both, Choice, If, Of, On, When, By, Fixed, Rate, Day, Plus, Minus, Times, Max, Less}
use Rattle.replay.specs.declared.days.DayAt.{DayAt}
use Rattle.replay.specs.declared.choices.Way.{Way}
use Rattle.replay.specs.declared.dues.Due.{Due}
use Rattle.replay.specs.declared.dues.Above.TheVariants.{Turn, Scale}
use Rattle.replay.specs.declared.flow.Deal.{Deal}
use Rattle.replay.specs.declared.flow.Part.{Part}
use Rattle.replay.specs.Days.{rate_on}
use Rattle.replay.specs.Parts.{node_in, behind}
use Rattle.replay.specs.Figure.{figure_at}
use Rattle.replay.specs.Dues.{lift_due}
use Rattle.replay.specs.Choices.{stepped, chosen_on}
use Rattle.replay.specs.First.{found, true_on, taken_on}

-- what is looked at: how many days are known, their rates, what was chosen on them by the way to it, and the nodes
pub record Seen : Type 0 where
  pub known : ℕ
  pub rates : ℕ → ℕ → ℤ
  pub chose : ℕ → Way → Bool
  pub node : ℕ → Node

abbrev pub seen : List ℕ → List DayAt → List Node → ℕ → Seen
seen kept days nodes c = record { known = length days; rates = rate_on kept days; chose = chosen_on kept days c; node = node_in nodes }

abbrev pub seen_by : Deal → Seen
seen_by d = seen d.days.kept.now d.days.days.now d.nodes.now d.number

-- the part at a place within another, a step further, that begins on a day
abbrev pub inside : Part → ℕ → ℕ → ℕ → Part
inside p at day step = record { at = at; day = day; way = stepped p.way step }

-- what comes of a part that goes on, if one does
abbrev pub goes_on : Option Part → (Part → List Due) → List Due
goes_on (Some p) go = go p
goes_on None go = []

-- the part that goes on in the place of one with a choice, if, on, when or by, if one does
unfoldable pub next_of : Seen → Part → Node → Option Part
next_of s p Nothing = None
next_of s p (Pays k a) = None
next_of s p Turned = None
next_of s p Both = None
next_of s p Choice =
    pick (nat_lt p.day s.known) (Some (pick (s.chose p.day p.way) (inside p (behind s.node (p.at + 1)) p.day 1) (inside p (p.at + 1) p.day 0))) None
next_of s p If =
    pick (nat_lt p.day s.known)
    (Some (pick (is_zero (figure_at s.rates s.node p.day 256 (p.at + 1))) (inside p (behind s.node (behind s.node (p.at + 1))) p.day 1)
    (inside p (behind s.node (p.at + 1)) p.day 0))) None
next_of s p Of = None
next_of s p (On d) = pick (nat_le p.day d) (Some (inside p (p.at + 1) d 0)) None
next_of s p When =
    option_map (λ v. inside p (behind s.node (p.at + 1)) v 0) (found (first_day (true_on s.rates s.node (p.at + 1)) p.day (s.known - p.day)))
next_of s p (By d) = option_map (λ v. inside p (p.at + 1) v 0) (found (first_day (taken_on s.chose d p.way) p.day (s.known - p.day)))
next_of s p (Fixed a) = None
next_of s p (Rate k n) = None
next_of s p Day = None
next_of s p Plus = None
next_of s p Minus = None
next_of s p Times = None
next_of s p Max = None
next_of s p Less = None

module _ (s : Seen) (u : ℕ) where
  -- a part with its node, by the parts within it
  unfoldable pub flow_of : (Part → List Due) → Part → Node → List Due
  flow_of go p Nothing = []
  flow_of go p (Pays k a) = pick (p.day == u && nat_lt p.day s.known) (record { currency = k; amount = a } ∷ []) []
  flow_of go p Turned = map (lift_due Turn) (go (inside p (p.at + 1) p.day 0))
  flow_of go p Both = go (inside p (p.at + 1) p.day 0) ++ go (inside p (behind s.node (p.at + 1)) p.day 1)
  flow_of go p Choice = goes_on (next_of s p Choice) go
  flow_of go p If = goes_on (next_of s p If) go
  flow_of go p Of =
      pick (nat_lt p.day s.known)
      (map (lift_due (Scale (figure_at s.rates s.node p.day 256 (p.at + 1)))) (go (inside p (behind s.node (p.at + 1)) p.day 0))) []
  flow_of go p (On d) = goes_on (next_of s p (On d)) go
  flow_of go p When = goes_on (next_of s p When) go
  flow_of go p (By d) = goes_on (next_of s p (By d)) go
  flow_of go p (Fixed a) = []
  flow_of go p (Rate k n) = []
  flow_of go p Day = []
  flow_of go p Plus = []
  flow_of go p Minus = []
  flow_of go p Times = []
  flow_of go p Max = []
  flow_of go p Less = []

  -- at most n deep
  unfoldable pub flow_at : ℕ → Part → List Due
  flow_at zero p = []
  flow_at (suc n) p = pick (nat_lt p.at 256) (flow_of (flow_at n) p (s.node p.at)) []
