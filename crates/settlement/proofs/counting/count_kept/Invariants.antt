use Rattle.std.proofs.Common.{◌≡◌, ℕ, ◌<◌, ◌≤◌, List, [], map, length, get_or, take}
use Rattle.std.specs.List.{AllByRecursion}
use Rattle.deals.specs.Contract.{Deal}
use Rattle.deals.specs.Lines.{deal_pair}
use Rattle.settlement.specs.Counting.{Counted, EntryStands, Inside, nobodys}
use Rattle.settlement.proofs.counting.count_kept.Given as goal

abbrev pub invariant-loop-c : goal.invariant-loop-c
invariant-loop-c l =
    (dd : List Deal) → length dd ≡ l.n → l.n ≤ 65536 → AllByRecursion Inside dd → ((c : ℕ) → c < l.n → EntryStands l.deals c (get_or dd c nobodys)) → Counted l.initial.seen [] 0 →
    Counted l.seen (map deal_pair (take l.c dd)) l.count
