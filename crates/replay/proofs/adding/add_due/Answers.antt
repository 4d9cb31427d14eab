use Rattle.std.proofs.Common.{get_or, pos, ◌+ℤ◌, ◌∙◌, arith, w64, SFits, rules}
use Rattle.std.specs.Int.{int_wrap}
use Rattle.std.proofs.lemmas.Int.{to_z-of_z}
use Rattle.replay.proofs.Adds.{due_here}
use Rattle.replay.proofs.adding.add_due.Goals as goal

pub returns-then-k-sums : goal.returns-then-k-sums
returns-then-k-sums c =
    let was = get_or c.args.sums.now c.args.due.currency (pos 0) in
    let a : SFits w64 was = search rules in
    let b : SFits w64 c.args.due.amount = search rules in
    due_here c.args.due c.args.sums.now _ (omega arith)
    (to_z-of_z w64 c.sum.result (search rules) ∙ c.sum.ensures ∙ (λ i. int_wrap w64 (to_z-of_z w64 was a i +ℤ to_z-of_z w64 c.args.due.amount b i)))
