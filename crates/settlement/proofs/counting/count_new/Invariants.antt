use Rattle.std.proofs.Common.{ℕ, ◌+◌, ◌≤◌, List, length}
use Rattle.std.specs.List.{AllByRecursion}
use Rattle.deals.specs.Contract.{Deal}
use Rattle.texts.specs.declared.stages.Stage.TheVariants.{Thin}
use Rattle.mornings.specs.declared.Start.{Start}
use Rattle.mornings.specs.Verdict as verdict
use Rattle.mornings.specs.Verdict.{Row}
use Rattle.mornings.specs.Judgement.{DealRead}
use Rattle.settlement.specs.Counting.{Counted, Inside}
use Rattle.settlement.proofs.Pairs.{Coming}
use Rattle.settlement.proofs.counting.count_new.Given as goal

abbrev pub invariant-loop-k : goal.invariant-loop-k
invariant-loop-k l =
    (st : Start) (day first : ℕ) (dd : List Deal) (j : ℕ) (pairs : List ℕ) → Row l.n (DealRead Thin st day) first l.bytes 2 (verdict.taken dd j) → AllByRecursion Inside dd → length pairs + l.n ≤ 131072 →
    Counted l.fn.seen pairs l.fn.before → Coming st day l.bytes l.n first dd j pairs l._k l.at l.seen l.count
