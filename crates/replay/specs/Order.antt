-- Deals as keys: their pair, and then their number. Assumes nothing: these are definitions.
use Rattle.std.specs.Prelude.{ℕ, suc, ◌+◌, ◌*◌, List, [], ◌∷◌}
use Rattle.deals.specs.Contract.{larger}
use Rattle.deals.specs.Lines.{pair}
use Rattle.deals.specs.Sleep.{smaller}
use Rattle.replay.specs.declared.listing.DealIn.{DealIn}

unfoldable pub pair_in : DealIn → ℕ
pair_in d = pair (smaller d.at.holder d.at.other) (larger d.at.holder d.at.other)

unfoldable pub key_of : DealIn → ℕ → ℕ
key_of d c = 65536 * pair_in d + c

-- the keys of deals, numbered from c on
unfoldable pub keys_from : ℕ → List DealIn → List ℕ
keys_from c [] = []
keys_from c (d ∷ rest) = key_of d c ∷ keys_from (suc c) rest
