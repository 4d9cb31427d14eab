-- Mornings that come later change nothing of what is paid before. Assumes nothing.
use Rattle.std.specs.Prelude.{◌≡◌, ℕ, ◌-◌, ◌≤◌, Bool, List, ◌++◌, length, ℤ}
use Rattle.deals.specs.Contract.{Contract, Morning, owed, net, all_days, all_deals}
use Rattle.deals.specs.Promise.{Fit}

-- what a pays b on day t, once all of some mornings are known
unfoldable pub net_on : ℕ → List Morning → ℕ → ℕ → ℕ → ℤ
net_on t ms k a b = owed (all_days ms) t k a b 0 (all_deals ms)

-- on a day it is what was paid then: neither days to come nor deals to come change it
abbrev pub LaterMornings : Type 0
LaterMornings =
    (built : Contract → Bool) (ps rs cs k a b : ℕ) (ms later : List Morning) → Fit built ps rs cs 0 (ms ++ later) → 1 ≤ length ms →
    net_on (length ms - 1) (ms ++ later) k a b ≡ net ms k a b
