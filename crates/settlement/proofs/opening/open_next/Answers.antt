use Rattle.std.proofs.Common.{◌≤◌, length, sym, subst, arith}
use Rattle.std.specs.List.{between}
use Rattle.deals.specs.Promise.{ContractFits}
use Rattle.texts.specs.Bounds.{TextTaken}
use Rattle.settlement.specs.Opening.{OpenedDeal, OpenedNext}
use Rattle.texts.specs.Nodes.{nodes_of}
use Rattle.texts.proofs.Verdicts.{one_verdict}
use Rattle.texts.proofs.Standing.{nodes_length}
use Rattle.settlement.proofs.Opened.{not_opened, opened_next}
use Rattle.settlement.proofs.opening.open_next.Goals as goal

pub returns-in_default : goal.returns-in_default
returns-in_default c = not_opened c.args.start c.args.bytes.now c.args.c c.args.at c.args.deals.now (λ day d j is. omega (arith, c.in_default.ensures, is.ends, is.within))

pub returns-in_default-read_part : goal.returns-in_default-read_part
returns-in_default-read_part c =
    let bytes = c.args.bytes.now in
    let rs = c.args.start.rates in
    let cs = c.args.start.currencies in
    let refused = c.in_default-read_part.ensures in
    not_opened c.args.start bytes c.args.c c.args.at c.args.deals.now
    (λ day d j is.
    one_verdict.2 rs cs (between c.in-Some.d.text_at c.in-Some.d.text_end bytes) d.contract _ refused.0.0
    (subst (λ z. TextTaken rs cs (between z.text_at z.text_end bytes) d.contract) (sym c.in-Some.ensures.0) is.text) refused.0.1)

pub returns : goal.returns
unfolding ContractFits
returns c =
    let bytes = c.args.bytes.now in
    let rs = c.args.start.rates in
    let cs = c.args.start.currencies in
    let e = c.in-Some.ensures.0 in
    let read = c.in-Ok.ensures in
    let x = read.0 in
    let few : length (nodes_of x) ≤ 256 = omega (arith, nodes_length x, read.1.fits.1) in
    subst (λ z. OpenedNext c.args.start bytes c.args.c c.args.at c.args.deals.now z.text_end c.open_deal.new.deals) (sym e)
    (opened_next c.args.start bytes c.args.c c.args.at c.args.deals.now c.open_deal.new.deals c.row.result.now x
    (subst (λ z. TextTaken rs cs (between z.text_at z.text_end bytes) x) e read.1) (c.row.ensures.all (nodes_of x) read.2 few)
    (subst (λ z. OpenedDeal c.args.c z.holder z.other z.day c.row.result.now c.args.deals.now c.open_deal.new.deals) e c.open_deal.ensures))
