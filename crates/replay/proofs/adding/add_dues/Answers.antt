use Rattle.std.proofs.Common.{◌≡◌, ◌<◌, length, get_or, map, ap, ◌∙◌, subst, arith}
use Rattle.std.proofs.lemmas.List.{take_all}
use Rattle.replay.specs.Dues.{no_due}
use Rattle.deals.specs.Residual.{come_to}
use Rattle.replay.specs.Meaning.{as_due}
use Rattle.replay.specs.Adding.{GrownBy, DueAdded}
use Rattle.replay.proofs.Adds.{added_none, added_more, added_all}
use Rattle.replay.proofs.adding.add_dues.Goals as goal

pub loop-due-init : goal.loop-due-init
loop-due-init c = added_none c.args.dues.now.items.items c.args.sums.now

pub loop-due-preserved : goal.loop-due-preserved
loop-due-preserved c =
    let xs = c.args.dues.now.items.items in
    let i = c.loop-due.due-index in
    let row = c.row-due-items.ensures in
    let lt : i < length xs = omega (arith, ap length row) in
    added_more xs i c.args.sums.now c.loop-due.sums c.add_due.new.sums (omega arith) lt
    (subst (λ z. DueAdded (get_or z i no_due) c.loop-due.sums c.add_due.new.sums) row c.add_due.ensures) c.loop-due.invariant

pub returns : goal.returns
returns c xs h few =
    let all : c.args.dues.now.items.items ≡ xs = h ∙ take_all 257 xs (omega arith) in
    subst (λ z. GrownBy (λ k. come_to k (map as_due z)) c.args.sums.now c.loop-due.sums) all
    (added_all c.args.dues.now.items.items c.loop-due.due-index c.args.sums.now c.loop-due.sums (omega (arith, ap length c.row-due-items.ensures)) c.loop-due.invariant)
