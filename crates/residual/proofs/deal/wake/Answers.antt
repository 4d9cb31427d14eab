use Rattle.std.proofs.Common.{◌≡◌, ◌≤◌, length, take, drop, sym, ap, ◌∙◌, subst, arith}
use Rattle.std.proofs.lemmas.List.{length-take-le, length-append, length-drop}
use Rattle.residual.specs.Layout.{first_rows}
use Rattle.residual.specs.Steps.{state, woken}
use Rattle.deals.specs.Shared.{shared_steps}
use Rattle.residual.specs.Deal.{Holds}
use Rattle.residual.proofs.Behind.{holds_front, holds_more}
use Rattle.residual.proofs.Waking.{fresh, deal_woken}
use Rattle.residual.proofs.deal.wake.Goals as goal

pub returns-clause-wakes : goal.returns-clause-wakes
returns-clause-wakes c n es slots num long h few_rows few_entries =
    let kept = c.args.kept in
    let part = c.in-Some.part.now in
    let rows = c.read_rows-rows.result in
    let st = fresh part kept c.args.due.now in
    let there : 12288 ≤ length part = omega (arith, c.in-Some.ensures.cases.enough, ap length c.in-Some.ensures.cases.same, length-take-le 12288 c.args.part.now long) in
    let read : take kept.rows rows ≡ first_rows part (length slots) = c.read_rows-rows.ensures ∙ ap (first_rows part) h.rows_are in
    let done =
    deal_woken part kept n es slots c.args.due.now there (subst (λ z. Holds z kept es slots) (sym c.in-Some.ensures.cases.same) (holds_front c.args.part.now kept es slots long h)) few_rows few_entries
    (state c.wake_rows.new.part c.wake_rows.new.left c.wake_rows.new.due)
    (c.wake_rows.ensures ∙ ap (λ rs. woken c.args.t rs st) read ∙ ap (λ t. woken t (first_rows part (length slots)) st) (sym num)) in
    record {
      holds =
          holds_more c.wake_rows.new.part (drop 12288 c.args.part.now) c.wake_rows.new.left (shared_steps n slots es).entries (shared_steps n slots es).slots
          (omega (arith, length-append c.wake_rows.new.part (drop 12288 c.args.part.now), length-drop 12288 c.args.part.now)) done.holds;
      paid = done.paid;
    }
