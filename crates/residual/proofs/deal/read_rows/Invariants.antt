use Rattle.std.proofs.Common.{◌≡◌, take}
use Rattle.residual.specs.Layout.{first_rows}
use Rattle.residual.proofs.deal.read_rows.Given as goal

abbrev pub invariant-loop-k : goal.invariant-loop-k
invariant-loop-k l = take l.k l.row-items ≡ first_rows l.part l.k
