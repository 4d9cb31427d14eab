use Rattle.std.proofs.Common.{◌≡◌, pos, nat_abs, ◌<ℤ◌, arith}
use Rattle.std.proofs.lemmas.Int.{ints, to_z-of_z}
use Rattle.mornings.proofs.Writing.{pays_up, pays_down, pays_none}
use Rattle.mornings.proofs.pairs.payment_of.Goals as goal

pub returns-then-amount-gt0 : goal.returns-then-amount-gt0
returns-then-amount-gt0 c =
    let a = c.ranges.amount in
    let above : pos 0 <ℤ c.args.amount = omega (arith, ints) in
    let is : c.unsigned_abs.result ≡ nat_abs c.args.amount = simp to_z-of_z at c.unsigned_abs.ensures.value in
    pays_up c.args.pair.low c.args.pair.high c.args.currency c.unsigned_abs.result c.args.amount above is

pub returns-then-amount-lt0 : goal.returns-then-amount-lt0
returns-then-amount-lt0 c =
    let a = c.ranges.amount in
    let below : c.args.amount <ℤ pos 0 = omega (arith, ints) in
    let is : c.unsigned_abs.result ≡ nat_abs c.args.amount = simp to_z-of_z at c.unsigned_abs.ensures.value in
    pays_down c.args.pair.low c.args.pair.high c.args.currency c.unsigned_abs.result c.args.amount below is

pub returns-else-amount-lt0 : goal.returns-else-amount-lt0
returns-else-amount-lt0 c = pays_none c.args.pair.low c.args.pair.high c.args.currency c.args.amount (omega (arith, ints))
