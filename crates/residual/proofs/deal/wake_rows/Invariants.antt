use Rattle.std.proofs.Common.{◌≡◌, drop}
use Rattle.residual.specs.Steps.{state, woken}
use Rattle.residual.proofs.deal.wake_rows.Given as goal

abbrev pub invariant-rows : goal.invariant-rows
invariant-rows l = woken l.t (drop l.row-index l.rows) (state l.part l.left l.due) ≡ woken l.t l.rows (state l.initial.part l.initial.left l.initial.due)
