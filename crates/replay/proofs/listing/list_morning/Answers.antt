use Rattle.std.proofs.Common.{◌≡◌, ◌+◌, ◌-◌, set, sym, ◌∙◌, subst, arith}
use Rattle.replay.proofs.InTurn.{Listing, listing_more, listing_none, listing_full, listing_end}
use Rattle.replay.proofs.listing.list_morning.Goals as goal

pub returns-in_err-deal : goal.returns-in_err-deal
returns-in_err-deal c xs h le =
    absurd (listing_none c.args.bytes.now c.args.morning (c.args.many - c.loop.counter) c.loop.at c.args.deals.now c.args.count xs c.loop.deals c.loop.count (omega arith) (c.loop.invariant xs h le) (sym c.deal_in.ensures ∙ c.in_err-deal.was))

pub returns-then-count-deals : goal.returns-then-count-deals
returns-then-count-deals c xs h le =
    listing_full c.args.bytes.now c.args.morning (c.args.many - c.loop.counter) c.loop.at c.args.deals.now c.args.count xs c.loop.deals c.loop.count (omega arith) (omega arith)
    (c.loop.invariant xs h le)

pub loop-preserved : goal.loop-preserved
loop-preserved c xs h le =
    let d = c.in_ok-deal.deal in
    let to = d.at.text_end in
    let more = listing_more c.args.bytes.now c.args.morning (c.args.many - c.loop.counter) c.loop.at c.args.deals.now c.args.count xs c.loop.deals c.loop.count d (omega arith) (omega arith) (omega arith) (sym c.deal_in.ensures ∙ c.in_ok-deal.was) (c.loop.invariant xs h le) in
    let one_less : c.args.many - c.loop.counter - 1 ≡ c.args.many - (c.loop.counter + 1) = omega arith in
    subst (λ n. Listing c.args.bytes.now c.args.morning n to c.args.deals.now c.args.count xs (set c.loop.deals c.loop.count d) (c.loop.count + 1)) one_less more

pub returns : goal.returns
returns c xs h le = listing_end c.args.bytes.now c.args.morning (c.args.many - c.loop.counter) c.loop.at c.args.deals.now c.args.count xs c.loop.deals c.loop.count (omega arith) (c.loop.invariant xs h le)
