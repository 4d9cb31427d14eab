use Rattle.std.proofs.Common.{List, length}
use Rattle.replay.specs.declared.listing.DealIn.{DealIn}
use Rattle.replay.specs.Listing.{AllRun}
use Rattle.replay.proofs.InTurn.{MorningsListing}
use Rattle.replay.proofs.listing.list_deals.Given as goal

abbrev pub invariant-loop-t : goal.invariant-loop-t
invariant-loop-t l = (xs : List DealIn) → AllRun l.days.kept.now l.days.days.now 0 (length l.days.days.now) xs → MorningsListing l.days.kept.now l.days.days.now l.t xs l.deals l.count
