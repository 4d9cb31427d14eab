-- The deals that wake on a day, as words: the two houses, the lower first, and then the deal. Assumes nothing: these are definitions.
use Rattle.std.specs.Prelude.{ℕ, ◌+◌, ◌*◌, Bool, List, map, filter, nat_le}
use Rattle.std.specs.List.{range_with_len}
use Rattle.deals.specs.Contract.{larger}
use Rattle.deals.specs.Lines.{pair}
use Rattle.deals.specs.Sleep.{smaller}
use Rattle.settlement.specs.declared.directory.Entry.{Entry}
use Rattle.settlement.specs.Directory.{entry_of}

-- the pair of a deal, the lower house first
unfoldable pub entry_pair : Entry → ℕ
entry_pair e = pair (smaller e.holder e.other) (larger e.holder e.other)

unfoldable pub word_at : List ℕ → ℕ → ℕ
word_at s c = entry_pair (entry_of s c) * 65536 + c

unfoldable pub wakes_at : ℕ → List ℕ → ℕ → Bool
wakes_at t s c = nat_le (entry_of s c).kept.wake t

-- the words of those of the first n deals that wake up to day t
unfoldable pub words_waking : ℕ → List ℕ → ℕ → List ℕ
words_waking t s n = map (word_at s) (filter (wakes_at t s) (range_with_len 0 n))
