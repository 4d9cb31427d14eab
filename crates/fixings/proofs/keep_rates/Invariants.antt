use Rattle.std.proofs.Common.{◌≡◌, ℕ, ◌+◌, ◌*◌, ◌<◌, get_or, pos}
use Rattle.mornings.specs.Places.{rate_at}
use Rattle.fixings.proofs.keep_rates.Given as goal

abbrev pub invariant-loop-k : goal.invariant-loop-k
invariant-loop-k l = (j : ℕ) → j < l.k → get_or l.word-items j (pos 0) ≡ rate_at l.bytes (l.at + 8 * j)
