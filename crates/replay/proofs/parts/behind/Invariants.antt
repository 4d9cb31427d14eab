use Rattle.std.proofs.Common.{◌≡◌, ◌+◌, ◌-◌, ◌*◌, ◌≤◌}
use Rattle.replay.specs.Parts.{node_in}
use Rattle.replay.specs.Parts.{passed}
use Rattle.replay.proofs.parts.behind.Given as goal

abbrev pub invariant-loop-more : goal.invariant-loop-more
invariant-loop-more l = (l.more ≤ 1 + 3 * l.i) × (passed (node_in l.nodes) (256 - l.i) l.more l.i ≡ passed (node_in l.nodes) (256 - l.initial.i) 1 l.initial.i)

abbrev pub decreases-loop-more : goal.decreases-loop-more
decreases-loop-more l = 256 - l.i
