use Rattle.std.proofs.Common.{◌-◌, ◌≤◌, List, length}
use Rattle.replay.specs.declared.listing.DealIn.{DealIn}
use Rattle.replay.specs.Listing.{DealsRun}
use Rattle.replay.proofs.InTurn.{Listing}
use Rattle.replay.proofs.listing.list_morning.Given as goal

abbrev pub invariant-loop : goal.invariant-loop
invariant-loop l =
    (xs : List DealIn) → DealsRun l.bytes l.many 2 l.morning xs → l.initial.count ≤ length l.initial.deals →
    Listing l.bytes l.morning (l.many - l.counter) l.at l.initial.deals l.initial.count xs l.deals l.count
