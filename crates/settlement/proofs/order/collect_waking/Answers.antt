use Rattle.std.proofs.Common.{◌+◌, ◌*◌, ◌<◌, ◌≤◌, [], ◌∷◌, ◌++◌, sym, ap, ◌∙◌, subst, arith}
use Rattle.std.proofs.lemmas.List.{take_more_set}
use Rattle.settlement.specs.Directory.{entry_of}
use Rattle.settlement.specs.Order.{entry_pair, word_at, words_waking}
use Rattle.settlement.proofs.Collecting.{waking_none, waking_yes, waking_no}
use Rattle.settlement.proofs.order.collect_waking.Goals as goal

pub waking-init : goal.waking-init
waking-init c = (omega arith, waking_none c.args.t c.args.deals.now)

pub waking-preserved-then-e-t : goal.waking-preserved-then-e-t
waking-preserved-then-e-t c =
    let later : c.args.t < (entry_of c.args.deals.now c.waking.c).kept.wake = subst (λ e. c.args.t < e.kept.wake) c.read_entry-e.ensures (omega arith) in
    (omega arith, c.waking.invariant.1 ∙ sym (waking_no c.args.t c.args.deals.now c.waking.c later))

pub waking-preserved : goal.waking-preserved
unfolding word_at entry_pair
waking-preserved c =
    let wakes : (entry_of c.args.deals.now c.waking.c).kept.wake ≤ c.args.t = subst (λ e. e.kept.wake ≤ c.args.t) c.read_entry-e.ensures (omega arith) in
    let word = c.pair_of.result * 65536 + c.waking.c in (
      omega arith,
      take_more_set c.waking.work c.waking.count word (omega arith)
          ∙ ap (λ zs. zs ++ word ∷ []) c.waking.invariant.1
          ∙ ap (λ k. words_waking c.args.t c.args.deals.now c.waking.c ++ (k * 65536 + c.waking.c) ∷ []) (c.pair_of.ensures.is ∙ ap entry_pair c.read_entry-e.ensures)
          ∙ sym (waking_yes c.args.t c.args.deals.now c.waking.c wakes),
    )
