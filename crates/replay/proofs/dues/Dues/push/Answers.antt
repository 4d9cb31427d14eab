use Rattle.replay.proofs.Holding.{pushed}
use Rattle.replay.proofs.dues.Dues.push.Goals as goal

pub returns : goal.returns
returns c xs h =
    let e = c.try_push.ensures in
    pushed c.try_push.result c.args.self.now.items c.try_push.new.self c.args.due xs e.variant.0 e.ok e.err e.full h
