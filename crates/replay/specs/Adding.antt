-- What deals come to on the last day. Assumes nothing: these are definitions.
use Rattle.std.specs.Prelude.{◌≡◌, ℕ, ◌-◌, ◌<◌, ◌≤◌, List, [], map, length, Some, Option, ℤ, pos, ◌+ℤ◌, ◌==◌, slice_index_or}
use Rattle.std.specs.Int.{int_wrap, w64}
use Rattle.deals.specs.Contract.{Contract, Day, pick, flows}
use Rattle.deals.specs.Residual.{come_to}
use Rattle.deals.specs.House.{Owes}
use Rattle.deals.specs.Payments.{adds}
use Rattle.octets.specs.Octets.{field}
use Rattle.texts.specs.Bounds.{TextTaken}
use Rattle.mornings.specs.declared.Start.{Start}
use Rattle.texts.specs.Nodes.{Holds, nodes_of}
use Rattle.texts.specs.declared.nodes.Tree.{Tree}
use Rattle.replay.specs.declared.days.DayAt.{DayAt}
use Rattle.replay.specs.declared.dues.Due.{Due}
use Rattle.replay.specs.declared.dues.Dues.{Dues}
use Rattle.replay.specs.declared.listing.DealIn.{DealIn}
use Rattle.replay.specs.Days.{nowhere, bytes_of}
use Rattle.replay.specs.Dues.{Held}
use Rattle.replay.specs.Meaning.{DaysAre, dues_on, as_due}

-- each sum has grown by so much, as far as 64 bits hold it
abbrev pub GrownBy : (ℕ → ℤ) → List ℤ → List ℤ → Type 0
GrownBy f sums sums' = (k : ℕ) → k < length sums → int_wrap w64 (slice_index_or sums' k (pos 0)) ≡ int_wrap w64 (slice_index_or sums k (pos 0) +ℤ f k)

abbrev pub DueAdded : Due → List ℤ → List ℤ → Type 0
DueAdded d sums sums' = GrownBy (λ k. pick (d.currency == k) d.amount (pos 0)) sums sums'

abbrev pub DuesAdded : Dues → List ℤ → List ℤ → Type 0
DuesAdded dues sums sums' = (xs : List Due) → Held dues xs → length xs ≤ 256 → GrownBy (λ k. come_to k (map as_due xs)) sums sums'

-- a deal stands among the kept bytes, with its contract
pub record DealStands (st : Start) (kept : List ℕ) (days : List DayAt) (d : DealIn) (x : Contract) : Type 0 where
  pub known : d.morning < length days
  pub ordered : d.at.text_at ≤ d.at.text_end
  pub within : d.at.text_end ≤ length (bytes_of kept (slice_index_or days d.morning nowhere))
  pub text : TextTaken st.rates st.currencies (field (d.at.text_end - d.at.text_at) (bytes_of kept (slice_index_or days d.morning nowhere)) d.at.text_at) x

abbrev pub ContractRead : Start → List ℕ → List DayAt → DealIn → Option Tree → Type 0
ContractRead st kept days d r = (x : Contract) → DealStands st kept days d x → (tree : Tree) × (r ≡ Some tree) × Holds tree (nodes_of x)

-- what flows under it on the last of some days, by its meaning
abbrev pub today_flows : List Day → ℕ → DealIn → Contract → List Due
today_flows ds c d x = dues_on (length ds - 1) (flows ds c [] x d.at.day)

abbrev pub DealFlows : Start → List ℕ → List DayAt → DealIn → ℕ → Option Dues → Type 0
DealFlows st kept days d c r =
    (ds : List Day) (x : Contract) → st.currencies ≤ 64 → DaysAre st.rates kept days ds → DealStands st kept days d x → (dues : Dues) × (r ≡ Some dues) × Held dues (today_flows ds c d x)

-- a deal that comes to what is owed under it
pub record OwesIt (st : Start) (kept : List ℕ) (days : List DayAt) (d : DealIn) (c : ℕ) (o : Owes) : Type 0 where
  pub coins : st.currencies ≤ 64
  pub ds : List Day
  pub contract : Contract
  pub holder : d.at.holder ≡ o.holder
  pub other : d.at.other ≡ o.other
  pub are : DaysAre st.rates kept days ds
  pub stands : DealStands st kept days d contract
  pub now : o.now ≡ map as_due (today_flows ds c d contract)

abbrev pub DealAdded : Start → List ℕ → List DayAt → DealIn → ℕ → List ℤ → List ℤ → Type 0
DealAdded st kept days d c sums sums' = (o : Owes) → OwesIt st kept days d c o → GrownBy (adds o) sums sums'
