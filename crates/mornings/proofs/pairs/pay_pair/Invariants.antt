use Rattle.std.proofs.Common.{◌≡◌, ℕ, ◌+◌, ◌*◌, ◌<◌, ◌≤◌, List, ◌++◌, length, get_or, ℤ, pos, w64}
use Rattle.std.specs.Int.{int_wrap}
use Rattle.mornings.specs.declared.payments.Payment.{Payment}
use Rattle.mornings.specs.Pairs.{Written, pair_payments}
use Rattle.mornings.proofs.pairs.pay_pair.Given as goal

abbrev pub invariant-loop-k : goal.invariant-loop-k
invariant-loop-k l =
    ((j : ℕ) → j < l.k → get_or l.sums j (pos 0) ≡ pos 0) × ((j : ℕ) → l.k ≤ j → get_or l.sums j (pos 0) ≡ get_or l.initial.sums j (pos 0))
    × ((was : List ℕ) (ps : List Payment) (f : ℕ → ℤ) → Written was ps l.initial.count l.initial.payments →
    ((j : ℕ) → j < length l.initial.sums → int_wrap w64 (get_or l.initial.sums j (pos 0)) ≡ f j) →
    13 * l.initial.count + 13 * length (pair_payments (length l.initial.sums) l.pair.low l.pair.high f) ≤ length was →
    Written was (ps ++ pair_payments l.k l.pair.low l.pair.high f) l.count l.payments)
