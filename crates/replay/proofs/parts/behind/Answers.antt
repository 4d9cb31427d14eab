use Rattle.std.proofs.Common.{◌≡◌, ◌+◌, ◌-◌, ◌≤◌, min, sym, ap, ◌∙◌, length, arith}
use Rattle.std.proofs.lemmas.List.{get_or_past}
use Rattle.texts.specs.declared.nodes.Node.TheVariants.{Nothing}
use Rattle.replay.specs.Parts.{node_in, within, passed, behind}
use Rattle.replay.proofs.Steps.{passed_more, passed_end, passed_none, passed_nothing}
use Rattle.replay.proofs.parts.behind.Goals as goal
use Rattle.replay.proofs.parts.behind.Goals.{then-loop-more-test+else-i-end, else-loop-more-test}

pub loop-more-preserved : goal.loop-more-preserved
loop-more-preserved c =
    let i = c.loop-more.i in
    let more = c.loop-more.more in
    let node = node_in c.args.nodes.now in
    let step = passed_more node (256 - i) more i (omega arith) (omega arith) in
    let few = c.within.ensures.few in
    let is : within (node i) ≡ c.within.result = sym c.within.ensures.is in
    let to : 256 - i - 1 ≡ 256 - (i + 1) = omega arith in
    (omega arith, sym (step ∙ ap (λ z. passed node z (more - 1 + within (node i)) (i + 1)) to ∙ ap (λ z. passed node (256 - (i + 1)) (more - 1 + z) (i + 1)) is) ∙ c.loop-more.invariant.1)

pub returns-then-i-lt256 : goal.returns-then-i-lt256
unfolding behind
returns-then-i-lt256 c =
    let i = c.loop-more.i in
    let more = c.loop-more.more in
    let node = node_in c.args.nodes.now in
    let to : min (i + more) 256 ≡ i + min more (256 - i) = omega arith in
    elim c.loop-more-test.branch [
      | then-loop-more-test+else-i-end w ↦
          let past : length c.args.nodes.now ≤ i = omega arith in
          c.min.ensures ∙ to ∙ sym (passed_nothing node (256 - i) more i (λ j le. get_or_past c.args.nodes.now j Nothing (omega arith))) ∙ c.loop-more.invariant.1
      | else-loop-more-test w ↦
          let none : more ≡ 0 = omega arith in
          let here : min (i + more) 256 ≡ i = omega arith in
          c.min.ensures ∙ here ∙ sym (ap (λ z. passed node (256 - i) z i) none ∙ passed_none node (256 - i) i) ∙ c.loop-more.invariant.1
    ]

pub returns-else-i-lt256 : goal.returns-else-i-lt256
unfolding behind
returns-else-i-lt256 c = sym (passed_end (node_in c.args.nodes.now) (256 - c.loop-more.i) c.loop-more.more c.loop-more.i (omega arith)) ∙ c.loop-more.invariant.1
