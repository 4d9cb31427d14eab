use Rattle.std.proofs.Common.{◌*◌, ◌≤◌, List, length}
use Rattle.deals.specs.House.{Owes}
use Rattle.mornings.specs.Pairs.{Zeros}
use Rattle.replay.specs.Settle.{Ordered, owed_by}
use Rattle.replay.proofs.Paying.{Paying}
use Rattle.replay.proofs.settle.pay_keys.Given as goal

abbrev pub invariant-loop-key : goal.invariant-loop-key
invariant-loop-key l =
    (due : List Owes) → Ordered l.book.start l.book.days.kept.now l.book.days.days.now l.deals l.keys due → Zeros l.initial.sums → 13 * (length l.keys * length l.initial.sums) ≤ length l.initial.payments →
    Paying (length l.initial.sums) l.initial.payments (owed_by due l.keys) l.key-index l.pair l.count l.sums l.payments
