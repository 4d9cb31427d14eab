use Rattle.std.proofs.Common.{◌≡◌, ◌-◌, ◌*◌, ◌≤◌, length, take, replicate, pos, sym, subst}
use Rattle.mornings.specs.Pairs.{Written}
use Rattle.replay.specs.Settle.{grouped_payments, owed_by}
use Rattle.replay.proofs.Paying.{zeros_long, zeros_none}
use Rattle.replay.proofs.settle.pay_sorted.Goals as goal

pub returns : goal.returns
returns c due ordered room =
    let k = c.args.currencies in
    let was = c.args.payments.now in
    let long : length (take (k - 0) (replicate 64 (pos 0))) ≡ k = zeros_long 64 k c.requires in
    subst (λ m. Written was (grouped_payments m (owed_by due c.args.keys.now)) c.pay_keys.result c.pay_keys.new.payments) long
    (c.pay_keys.ensures due ordered (zeros_none 64 k c.requires) (subst (λ m. 13 * (length c.args.keys.now * m) ≤ length was) (sym long) room))
