-- The days on which what waits may begin. Assumes nothing: these are definitions.
use Rattle.std.specs.Prelude.{ℕ, zero, suc, Bool, not, ◌&&◌, length, ◌-◌, ℤ, Some, None, Option, nat_le}
use Rattle.deals.specs.Contract.{is_zero, first_day}
use Rattle.texts.specs.declared.nodes.Node.{Node}
use Rattle.replay.specs.declared.days.Days.{Days}
use Rattle.replay.specs.declared.choices.Way.{Way}
use Rattle.replay.specs.Figure.{figure_at}

-- a day, where 0 is none and each other number is the day before it
abbrev pub found : ℕ → Option ℕ
found zero = None
found (suc u) = Some u

-- the first of the known days, from day t on, that passes
abbrev pub first_known : Days → (ℕ → Bool) → ℕ → Option ℕ
first_known d f t = found (first_day f t (length d.days.now - t))

-- whether the figure at place i isn't 0 on a day
unfoldable pub true_on : (ℕ → ℕ → ℤ) → (ℕ → Node) → ℕ → ℕ → Bool
true_on rates node i u = not (is_zero (figure_at rates node u 256 i))

-- whether a part is chosen on a day, up to day d
unfoldable pub taken_on : (ℕ → Way → Bool) → ℕ → Way → ℕ → Bool
taken_on chose d w u = nat_le u d && chose u w
