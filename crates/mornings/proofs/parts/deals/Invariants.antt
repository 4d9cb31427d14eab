use Rattle.mornings.specs.Judgement.{Passes, DealRead}
use Rattle.mornings.proofs.Rows.{Reached}
use Rattle.mornings.proofs.parts.deals.Given as goal

abbrev pub invariant-loop-k : goal.invariant-loop-k
invariant-loop-k l = Reached (λ d. Passes (DealRead l.today.stage l.today.start l.today.day d) l.bytes) l.n l.so_far l.at l.k l.to
