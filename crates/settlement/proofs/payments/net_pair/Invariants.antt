use Rattle.std.proofs.Common.{◌≡◌, ℕ, ◌<◌, ◌≤◌, get_or, pos, w64}
use Rattle.std.specs.Int.{int_wrap}
use Rattle.settlement.specs.Keeping.{net_of}
use Rattle.settlement.proofs.payments.net_pair.Given as goal

abbrev pub invariant-loop-k : goal.invariant-loop-k
invariant-loop-k l =
    ((j : ℕ) → j < l.k → get_or l.gives j (pos 0) ≡ pos 0)
    × ((j : ℕ) → j < l.k → get_or l.gets j (pos 0) ≡ int_wrap w64 (net_of l.initial.gets l.initial.gives j))
    × ((j : ℕ) → l.k ≤ j → get_or l.gets j (pos 0) ≡ get_or l.initial.gets j (pos 0))
    × ((j : ℕ) → l.k ≤ j → get_or l.gives j (pos 0) ≡ get_or l.initial.gives j (pos 0))
