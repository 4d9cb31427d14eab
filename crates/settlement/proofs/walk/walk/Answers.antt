use Rattle.std.proofs.Common.{◌≡◌, length, get_or, pos, ◌∙◌, arith}
use Rattle.std.proofs.lemmas.Bool.Decides.{nat_tests}
use Rattle.std.proofs.lemmas.List.{take-replicate, length-replicate}
use Rattle.settlement.proofs.Walking.{word_pair, walking_start, same_pair, other_pair, walking_end}
use Rattle.settlement.proofs.walk.walk.Goals.{then-ne, else-ne}
use Rattle.settlement.proofs.walk.walk.Goals as goal

pub loop-word-init : goal.loop-word-init
loop-word-init c =
    let k = c.args.currencies in
    rw (take-replicate k 64 (pos 0) c.requires)
    (length-replicate k (pos 0), length-replicate k (pos 0), λ n see hs ready. walking_start c.args.t n k see hs c.args.deals.now c.args.words.now c.args.payments.now ready)

pub loop-word-preserved : goal.loop-word-preserved
loop-word-preserved c =
    let l = c.loop-word in
    let p = c.if-ne in
    let next = word_pair (get_or c.args.words.now l.word-index 0) in
    let gets' : length p.gets ≡ c.args.currencies = p.auto.gets ∙ l.invariant.0 in
    let gives' : length p.gives ≡ c.args.currencies = p.auto.gives ∙ l.invariant.1 in (
      c.wake_side.auto.gets ∙ gets',
      c.wake_side.auto.gives ∙ gives',
      λ n see hs ready.
          let so_far = l.invariant.2 n see hs ready in
          rw c.numbered-next.ensures (elim p.branch [
            | then-ne w ↦
                other_pair c.args.t n c.args.currencies see hs c.args.deals.now c.args.words.now c.args.payments.now ready l.word-index (omega arith) l.deals l.at l.count l.gets l.gives l.payments so_far l.invariant.0
                p.count p.gets p.gives p.payments gets' gives' c.wake_side.new.deals c.wake_side.new.gets c.wake_side.new.gives c.wake_side.auto.deals c.wake_side.ensures
                (λ is. grind (arith, nat_tests, c.numbered-next.ensures)) (rw (w.count-is, w.gets-is, w.gives-is, w.payments-is) w.net_pair-count.ensures)
            | else-ne w ↦
                same_pair c.args.t n c.args.currencies see hs c.args.deals.now c.args.words.now c.args.payments.now ready l.word-index (omega arith) l.deals l.at l.count l.gets l.gives l.payments so_far l.invariant.0
                p.count p.gets p.gives p.payments gets' gives' c.wake_side.new.deals c.wake_side.new.gets c.wake_side.new.gives c.wake_side.auto.deals c.wake_side.ensures
                (grind (arith, nat_tests, c.numbered-next.ensures)) w.count-is w.gets-is w.gives-is w.payments-is
          ]),
    )

pub returns : goal.returns
returns c n see hs ready =
    let l = c.loop-word in
    walking_end c.args.t n c.args.currencies see hs c.args.deals.now c.args.words.now c.args.payments.now ready l.word-index l.deals l.at l.count l.gets l.gives l.payments
    c.net_pair.result c.net_pair.new.gets c.net_pair.new.gives c.net_pair.new.payments (omega arith) l.invariant.0 c.net_pair.ensures (l.invariant.2 n see hs ready)
