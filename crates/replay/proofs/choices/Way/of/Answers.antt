use Rattle.std.proofs.Common.{length, refl, arith, rules, tests}
use Rattle.std.proofs.lemmas.Iterator.{YieldsList-from_slice}
use Rattle.std.proofs.lemmas.Iterator.Consumers.{fold_from_yields_List}
use Rattle.replay.specs.Choices.{one_more}
use Rattle.replay.proofs.Ways.{way_fold}
use Rattle.replay.proofs.choices.Way.of.Goals as goal

pub returns : goal.returns
returns c =
    let steps = c.args.steps.now in
    way_fold steps c.fold.result (length steps)
    (fold_from_yields_List _ one_more 0 c.fold.result c.fold.ensures.ran (YieldsList-from_slice steps c.iter.ensures.rest)
    (λ a x b q k. (search rules, grind (arith, tests)))) refl (search rules)
