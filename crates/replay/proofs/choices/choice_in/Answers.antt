use Rattle.std.proofs.Common.{◌≡◌, ◌+◌, ◌-◌, take, drop, length, Some, sym, ap, ◌∙◌, arith}
use Rattle.mornings.specs.Places.{choice_at}
use Rattle.replay.specs.Choices.{way_of}
use Rattle.replay.proofs.Ways.{way_long}
use Rattle.replay.proofs.Chosen.{choice_cut, choice_cut_way, choice_whole}
use Rattle.replay.proofs.choices.choice_in.Goals as goal

pub returns-in_err-checked_sub : goal.returns-in_err-checked_sub
returns-in_err-checked_sub c = c.from_residual.ensures ∙ sym (choice_cut c.args.bytes.now c.args.at (omega (arith, c.in_err-checked_sub.ensures)))

pub returns-then-branch : goal.returns-then-branch
returns-then-branch c = sym (choice_cut c.args.bytes.now c.args.at (omega (arith, c.in_ok-checked_sub.ensures)))

pub returns-in_err-steps : goal.returns-in_err-steps
returns-in_err-steps c =
    let at = ap (λ z. z.way_at) c.choice_at-choice.ensures in
    let to = ap (λ z. z.way_end) c.choice_at-choice.ensures in
    c.from_residual-in_err-steps.ensures
    ∙ sym (choice_cut_way c.args.bytes.now c.args.at (omega (arith, c.in_ok-checked_sub.ensures)) (omega (arith, c.in_err-steps.ensures.lookup)))

pub returns : goal.returns
returns c =
    let s = c.args.bytes.now in
    let i = c.args.at in
    let e = c.choice_at-choice.ensures in
    let at = ap (λ z. z.way_at) e in
    let to = ap (λ z. z.way_end) e in
    let look = c.in_ok-steps.ensures.lookup.0 in
    let n = (choice_at s i).way_end - (i + 5) in
    let steps : c.in_ok-steps.steps.now ≡ take n (drop (i + 5) s) = look.2 ∙ (λ j. take (to j - at j) (drop (at j) s)) in
    let long : length (take n (drop (i + 5) s)) ≡ n = sym (ap length steps) ∙ omega (arith, look.3) in
    let way = c.of.ensures ∙ ap way_of steps ∙ way_long (take n (drop (i + 5) s)) n long (omega arith) in
    (λ j. Some (record { deal = (e j).deal; way = way j; next = (e j).way_end })) ∙ sym (choice_whole s i (omega arith))
