use Rattle.std.proofs.Common.{[], ◌∷◌, ◌++◌, take, sym, ap, ◌∙◌, arith}
use Rattle.std.proofs.lemmas.List.{take_more_set}
use Rattle.replay.specs.Order.{keys_from}
use Rattle.replay.proofs.Ordering.{keys_none, keys_more, no_deal}
use Rattle.replay.proofs.order.key_deals.Goals as goal

pub loop-c-init : goal.loop-c-init
loop-c-init c = keys_none c.args.deals.now

pub loop-c-preserved : goal.loop-c-preserved
loop-c-preserved c =
    let i = c.loop-c.c in
    take_more_set c.loop-c.keys i c.key_of.result (omega arith) ∙ ap (λ z. z ++ c.key_of.result ∷ []) c.loop-c.invariant
    ∙ ap (λ z. keys_from 0 (take i c.args.deals.now) ++ z ∷ []) c.key_of.ensures ∙ sym (keys_more c.args.deals.now i no_deal (omega arith))
