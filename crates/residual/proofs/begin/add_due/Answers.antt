use Rattle.std.proofs.Common.{length, get_or, set, pos, ap, arith, w64, SFits, rules}
use Rattle.std.proofs.lemmas.Int.{wrapping_add_is}
use Rattle.std.proofs.lemmas.Bool.{lt-ltb}
use Rattle.residual.specs.Steps.{with_due}
use Rattle.residual.proofs.begin.add_due.Goals as goal

pub returns-then-k-due : goal.returns-then-k-due
unfolding with_due
returns-then-k-due c =
    let held : SFits w64 (get_or c.args.due.now c.args.k (pos 0)) = search rules in
    let sum = wrapping_add_is w64 (get_or c.args.due.now c.args.k (pos 0)) c.args.amount held c.ranges.amount in
    simp (lt-ltb c.args.k (length c.args.due.now) (omega arith)) (ap (set c.args.due.now c.args.k) sum)
