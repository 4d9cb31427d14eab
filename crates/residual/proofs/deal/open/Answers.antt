use Rattle.std.proofs.Common.{◌≤◌, [], ◌∷◌, length, drop, ap, arith}
use Rattle.std.proofs.lemmas.List.{length-take-le, length-append, length-drop}
use Rattle.deals.specs.Promise.{ContractFits}
use Rattle.deals.specs.Residual.{starts}
use Rattle.residual.proofs.Behind.{holds_more}
use Rattle.texts.proofs.Standing.{nodes_length}
use Rattle.residual.proofs.Opening.{opened}
use Rattle.residual.proofs.deal.open.Goals as goal

pub returns-then-marks-gt-DEEP-clause-opens : goal.returns-then-marks-gt-DEEP-clause-opens
unfolding ContractFits
returns-then-marks-gt-DEEP-clause-opens c x rs cs is fits few t early long = absurd (omega (arith, ap length is, nodes_length x, fits.1))

pub returns-clause-opens : goal.returns-clause-opens
returns-clause-opens c x rs cs is fits few t early long =
    let written = c.lay-end.ensures.laid in
    let there : 12288 ≤ length c.in-Some.part.now = omega (arith, c.in-Some.ensures.cases.enough, ap length c.in-Some.ensures.cases.same, length-take-le 12288 c.args.part.now long) in
    holds_more c.write_row.new.part (drop 12288 c.args.part.now) (record { wake = c.args.from; rows = 1; used = 0 }) [] (record { entry = 0; way = []; waits = starts c.args.from x } ∷ [])
    (omega (arith, length-append c.write_row.new.part (drop 12288 c.args.part.now), length-drop 12288 c.args.part.now))
    (rw (c.write_row.ensures, ap (λ z. z.bytes) written, ap (λ z. z.next) written) (opened c.in-Some.part.now c.args.marks.now c.args.from x rs cs is fits few t early there))
