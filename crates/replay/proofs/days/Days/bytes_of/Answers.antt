use Rattle.std.proofs.Common.{refl, ap, ◌∙◌}
use Rattle.replay.proofs.Bytes.{bytes_got}
use Rattle.replay.proofs.days.Days.bytes_of.Goals as goal

pub returns : goal.returns
returns c =
    ap (λ z. z.now) c.unwrap_or.ensures ∙ bytes_got (λ z. z.now) c.args.self.kept.now c.args.day c.min-to.result c.get.result _ c.min-to.ensures refl c.get.ensures.lookup.0
