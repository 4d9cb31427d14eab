use Rattle.std.proofs.Common.{◌≡◌, ℕ, ◌<◌, ◌≤◌, List, length, get_or}
use Rattle.std.specs.List.{AllByRecursion}
use Rattle.deals.specs.Contract.{Deal}
use Rattle.deals.specs.House.{Held}
use Rattle.deals.specs.Payments.{gone}
use Rattle.texts.specs.declared.stages.Stage.TheVariants.{Thin}
use Rattle.mornings.specs.Verdict as verdict
use Rattle.mornings.specs.Verdict.{Row}
use Rattle.mornings.specs.Judgement.{DealRead}
use Rattle.settlement.specs.Keeping.{Keeps}
use Rattle.settlement.proofs.Opened.{Opening}
use Rattle.settlement.proofs.opening.open_deals.Given as goal

abbrev pub invariant-loop-k : goal.invariant-loop-k
invariant-loop-k l =
    (day : ℕ) (dd : List Deal) (j : ℕ) (hs : List Held) → l.start.currencies ≤ 64 → Row l.n (DealRead Thin l.start day) l.first l.bytes 2 (verdict.taken dd j) →
    AllByRecursion (λ d. d.from < 65536) dd → length hs ≡ l.first → ((c : ℕ) → c < l.first → Keeps l.initial.deals c (get_or hs c gone)) →
    Opening l.start day l.bytes l.n l.first dd j hs l.k l.at l.deals
