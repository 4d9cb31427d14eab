-- How long the lent slices have to be, and which is the first that is too short. Assumes nothing: these are definitions.
use Rattle.std.specs.Prelude.{◌≡◌, ℕ, ◌+◌, ◌*◌, ◌<◌, ◌≤◌, List, length, Err, Result, MatchResult}
use Rattle.deals.specs.Contract.{Deal}
use Rattle.deals.specs.Lines.{pair_count}
use Rattle.mornings.specs.declared.Start.{Start}
use Rattle.settlement.specs.declared.room.Lent.{Lent}
use Rattle.settlement.specs.declared.room.Lent.TheVariants.{Deals, Rates, Work, Payments, Sums}
use Rattle.settlement.specs.declared.room.Lengths.{Lengths}
use Rattle.settlement.specs.Counting.{PairsStand}

-- the lent slices by number
abbrev pub slice_number : Lent → ℕ
slice_number Deals = 0
slice_number Rates = 1
slice_number Work = 2
slice_number Payments = 3
slice_number Sums = 4

abbrev pub length_of : Lengths → Lent → ℕ
length_of l Deals = l.deals
length_of l Rates = l.rates
length_of l Work = l.work
length_of l Payments = l.payments
length_of l Sums = l.sums

-- for the deals that there are: 16,384 bytes each; a word for each rate of 4,097 days; 1 MiB in words of eight bytes; 13 bytes for each pair that has a deal and each currency, twice
abbrev pub wanted : Start → List Deal → Lengths
wanted st dd =
    record {
      deals = 16384 * length dd;
      rates = 4097 * st.rates;
      work = 131072;
      payments = 13 * (pair_count dd * st.currencies);
      sums = 13 * (pair_count dd * st.currencies);
    }

-- each is long enough
abbrev pub LongEnough : Lengths → Lengths → Type 0
LongEnough need lent = (s : Lent) → length_of need s ≤ length_of lent s

-- one is too short, and none before it
pub record FirstShort (need lent : Lengths) (s : Lent) : Type 0 where
  pub short : length_of lent s < length_of need s
  pub before : (r : Lent) → slice_number r < slice_number s → length_of need r ≤ length_of lent r

-- what there is room for, whatever the bytes are
pub record HasRoom (first new : ℕ) (lent : Lengths) (n : ℕ) : Type 0 where
  pub many : n ≡ first + new
  pub few : n ≤ 65536
  pub deals : 16384 * n ≤ lent.deals
  pub work : 131072 ≤ lent.work

-- the slices are long enough, or which is the first that is not, for the deals that are kept and those of the morning; where the deals' is too short it is the first, whatever it holds
pub record Measures (st : Start) (s : List ℕ) (first : ℕ) (bytes : List ℕ) (new : ℕ) (lent : Lengths) (r : Result ℕ Lent) : Type 0 where
  pub safe : MatchResult r (HasRoom first new lent) (λ _. Unit {0})
  pub no_deals : lent.deals < 16384 * (first + new) → r ≡ Err Deals
  pub means : (dd : List Deal) → PairsStand s first bytes new dd → length dd ≤ 65536 → MatchResult r (λ _. LongEnough (wanted st dd) lent) (FirstShort (wanted st dd) lent)
