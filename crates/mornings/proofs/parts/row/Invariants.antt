use Rattle.mornings.proofs.Rows.{Reached}
use Rattle.mornings.proofs.parts.row.Given as goal

abbrev pub invariant-loop-k : goal.invariant-loop-k
invariant-loop-k g l = Reached (λ _ i r. goal.F-post g l.part i r) l.n 0 l.at l._k l.to
