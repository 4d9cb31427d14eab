use Rattle.replay.proofs.Adds.{AddedSoFar}
use Rattle.replay.proofs.adding.add_dues.Given as goal

abbrev pub invariant-loop-due : goal.invariant-loop-due
invariant-loop-due l = AddedSoFar l.dues.items.items l.due-index l.initial.sums l.sums
