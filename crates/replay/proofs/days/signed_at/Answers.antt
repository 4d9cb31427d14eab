use Rattle.std.proofs.Common.{◌-◌, ◌/◌, ◌<◌, ◌≤◌, length, ◌∙◌, arith, w64, rules}
use Rattle.std.proofs.lemmas.Bool.{lt-ltb, le-ltb}
use Rattle.std.proofs.lemmas.Int.{to_z-of_z}
use Rattle.replay.specs.Days.{signed_at}
use Rattle.replay.proofs.days.signed_at.Goals as goal

pub returns-then-k-saturating_sub : goal.returns-then-k-saturating_sub
unfolding signed_at
returns-then-k-saturating_sub c =
    let past : (length c.args.bytes.now - c.args.at) / 8 ≤ c.args.k = omega arith in
    rw (le-ltb c.args.k ((length c.args.bytes.now - c.args.at) / 8) past)

pub returns : goal.returns
unfolding signed_at
returns c =
    let within : c.args.k < (length c.args.bytes.now - c.args.at) / 8 = omega arith in
    let e = c.read.ensures in
    rw (lt-ltb c.args.k ((length c.args.bytes.now - c.args.at) / 8) within) (to_z-of_z w64 c.read.result (search rules) ∙ e)
