use Rattle.std.proofs.Common.{Some, sym, ap, ◌∙◌, arith}
use Rattle.replay.proofs.InTurn.{deal_none, deal_whole}
use Rattle.replay.proofs.listing.deal_in.Goals as goal

pub returns-in_err-at : goal.returns-in_err-at
returns-in_err-at c = c.from_residual.ensures ∙ sym (deal_none c.args.bytes.now c.args.at c.args.morning c.in_err-at.ensures)

pub returns : goal.returns
returns c =
    let told = c.in_ok-at.ensures in
    ap (λ z. Some (record { morning = c.args.morning; at = z })) told.0
    ∙ sym (deal_whole c.args.bytes.now c.args.at c.args.morning (omega (arith, told.1, ap (λ z. z.text_end) told.0)))
