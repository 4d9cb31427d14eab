use Rattle.std.proofs.Common.{◌≡◌, ℕ, length}
use Rattle.deals.specs.Residual.{Today}
use Rattle.deals.specs.House.{Held}
use Rattle.settlement.specs.Walk.{Ready}
use Rattle.settlement.proofs.Walking.{Walking}
use Rattle.settlement.proofs.walk.walk.Given as goal

abbrev pub invariant-loop-word : goal.invariant-loop-word
invariant-loop-word l =
    (length l.gets ≡ l.currencies) × (length l.gives ≡ l.currencies)
    × ((n : ℕ) (see : ℕ → Today) (hs : ℕ → Held) → Ready l.t n l.currencies see hs l.initial.deals l.words (length l.initial.payments) →
    Walking n l.currencies see hs l.initial.deals l.words l.initial.payments l.word-index l.deals l.at l.count l.gets l.gives l.payments)
