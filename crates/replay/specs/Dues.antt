-- Amounts that flow on a day, in a row. Assumes nothing: these are definitions.
use Rattle.std.specs.Prelude.{◌≡◌, ℕ, min, List, ◌++◌, map, length, take, ℤ, pos, ◌*ℤ◌, neg_ℤ}
use Rattle.std.specs.Int.{int_wrap, w64}
use Rattle.deals.specs.Contract.{down, million}
use Rattle.replay.specs.declared.dues.Due.{Due}
use Rattle.replay.specs.declared.dues.Dues.{Dues}
use Rattle.replay.specs.declared.dues.Above.{Above}
use Rattle.replay.specs.declared.dues.Above.TheVariants.{Turn, Scale}

abbrev pub no_due : Due
no_due = record { currency = 0; amount = pos 0 }

-- an amount as it comes out above
abbrev pub lifted : Above → ℤ → ℤ
lifted Turn a = int_wrap w64 (neg_ℤ a)
lifted (Scale v) a = down (int_wrap w64 (a *ℤ v)) million

abbrev pub lift_due : Above → Due → Due
lift_due above d = record { currency = d.currency; amount = lifted above d.amount }

-- the first 257 of some amounts are held
abbrev pub Held : Dues → List Due → Type 0
Held d xs = d.items.items ≡ take 257 xs

-- whatever was held, more is held behind it now
abbrev pub Adds : Dues → Dues → List Due → Type 0
Adds before after more = (xs : List Due) → Held before xs → Held after (xs ++ more)

-- the amounts from a place on come out above
abbrev pub Lifts : Dues → Dues → ℕ → Above → Type 0
Lifts before after from above =
    (xs ys : List Due) → Held before (xs ++ ys) → from ≡ min (length xs) 257 → Held after (xs ++ map (lift_due above) ys)
