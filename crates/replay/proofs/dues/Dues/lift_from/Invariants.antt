use Rattle.std.proofs.Common.{◌≡◌, ◌-◌, length}
use Rattle.replay.specs.Dues.{lift_due}
use Rattle.replay.proofs.Holding.{changed}
use Rattle.replay.proofs.dues.Dues.lift_from.Given as goal

abbrev pub invariant-loop-i : goal.invariant-loop-i
invariant-loop-i l =
    (changed (lift_due l.above) l.self.items.items l.i (l.i-end - l.i) ≡ changed (lift_due l.above) l.initial.self.items.items l.from (l.i-end - l.from))
    × (length l.self.items.items ≡ l.i-end)
