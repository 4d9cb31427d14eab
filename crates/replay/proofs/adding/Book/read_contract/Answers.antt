use Rattle.std.proofs.Common.{◌≡◌, true, false, refl, ◌∙◌, arith}
use Rattle.replay.specs.Days.{nowhere}
use Rattle.replay.proofs.Taking.{stands_read}
use Rattle.replay.proofs.adding.Book.read_contract.Goals as goal

pub returns-in_err-ok : goal.returns-in_err-ok
returns-in_err-ok c x stands =
    let r = stands_read c.args.self.start c.args.self.days.kept.now c.bytes_of-bytes.result.now c.args.self.days.days.now c.args.deal x c.in_ok-day.day.now c.read_part.new.read.tree c.read_part.result stands
    (c.in_ok-day.ensures.lookup.3.1 nowhere) c.bytes_of-bytes.ensures c.read_part.ensures in
    let clash : false ≡ true = c.in_err-ok.ensures.variant ∙ r.0 in
    absurd (grind arith)

pub returns : goal.returns
returns c x stands =
    let r = stands_read c.args.self.start c.args.self.days.kept.now c.bytes_of-bytes.result.now c.args.self.days.days.now c.args.deal x c.in_ok-day.day.now c.read_part.new.read.tree c.read_part.result stands
    (c.in_ok-day.ensures.lookup.3.1 nowhere) c.bytes_of-bytes.ensures c.read_part.ensures in
    (c.read_part.new.read.tree, refl, r.1)
