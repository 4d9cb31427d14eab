use Rattle.mornings.proofs.Writing.{appended, appended_room}
use Rattle.mornings.proofs.pairs.append_payment.Goals as goal

pub returns-then-count-payments : goal.returns-then-count-payments
returns-then-count-payments c was ps w h = absurd (appended_room c.args.count c.in-Some.p c.args.payment c.in-Some.is c.args.payments.now was ps w h c.if-count-payments.true)

pub returns : goal.returns
returns c was ps w h =
    appended c.args.count c.in-Some.p c.args.payment c.in-Some.is c.args.payments.now was ps w h c.write_payment.new.out c.write_payment.ensures
