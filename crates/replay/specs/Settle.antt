-- What is paid on the last of the mornings taken. Assumes nothing: these are definitions.
use Rattle.std.specs.Prelude.{◌≡◌, ℕ, ◌*◌, ◌/◌, ◌%◌, ◌<◌, ◌≤◌, ◌≢◌, ◌⊎◌, List, map, length, get_or, ℤ, pos, slice_index, slice_index_or}
use Rattle.deals.specs.Promise.{size}
use Rattle.deals.specs.Residual.{come_to}
use Rattle.deals.specs.House.{Owes}
use Rattle.deals.specs.Payments.{written, pair_of, paired, nobody, Between}
use Rattle.mornings.specs.declared.Start.{Start}
use Rattle.mornings.specs.declared.payments.Payment.{Payment}
use Rattle.replay.specs.declared.days.DayAt.{DayAt}
use Rattle.replay.specs.declared.listing.DealIn.{DealIn}
use Rattle.mornings.specs.Pairs.{as_bytes, Written, Zeros, PairPaid}
use Rattle.replay.specs.Adding.{OwesIt}

-- with another pair the payments of the last are written, and its sums begin again
abbrev pub TurnedTo : ℕ → ℕ → ℕ → List ℤ → List ℕ → ℕ → List ℤ → List ℕ → Type 0
TurnedTo pair next n sums s r sums' s' =
    ((pair ≡ next) × (r ≡ n) × (sums' ≡ sums) × (s' ≡ s)) ⊎ ((pair ≢ next) × PairPaid (pair / 65536 % 65536) (pair % 65536) n sums s r sums' s')

-- deals in the order of their pairs, each of which comes to what is owed under it
pub record Ordered (st : Start) (kept : List ℕ) (days : List DayAt) (deals : List DealIn) (keys : List ℕ) (due : List Owes) : Type 0 where
  pub many : length due ≡ length deals
  pub few : length keys ≤ 65536
  pub owe : (c : ℕ) (d : DealIn) → c < length deals → OwesIt st kept days (slice_index_or deals c d) c (slice_index_or due c nobody)
  pub small : (c k : ℕ) → c < length deals → size (come_to k (get_or due c nobody).now) ≤ 1099511627776
  pub between : (c : ℕ) → c < length deals → Between 1024 (slice_index_or due c nobody)
  pub numbers : (i : ℕ) → i < length keys → slice_index keys i % 65536 < length deals
  pub pairs : (i : ℕ) → i < length keys → pair_of (slice_index_or due (slice_index keys i % 65536) nobody) ≡ slice_index keys i / 65536

-- what is owed under the deals of some keys
unfoldable pub owed_by : List Owes → List ℕ → List Owes
owed_by due keys = map (λ w. get_or due (w % 65536) nobody) keys

-- the payments of deals in the order of their pairs
unfoldable pub grouped_payments : ℕ → List Owes → List Payment
grouped_payments cs os = map (λ l. as_bytes (written l)) (paired cs 0 0 (λ k. pos 0) os)

abbrev pub KeysPaid : Start → List ℕ → List DayAt → List DealIn → List ℕ → List ℤ → List ℕ → ℕ → List ℕ → Type 0
KeysPaid st kept days deals keys sums was r s' =
    (due : List Owes) → Ordered st kept days deals keys due → Zeros sums → 13 * (length keys * length sums) ≤ length was → Written was (grouped_payments (length sums) (owed_by due keys)) r s'

abbrev pub SortedPaid : Start → List ℕ → List DayAt → List DealIn → List ℕ → ℕ → List ℕ → ℕ → List ℕ → Type 0
SortedPaid st kept days deals keys cs was r s' =
    (due : List Owes) → Ordered st kept days deals keys due → 13 * (length keys * cs) ≤ length was → Written was (grouped_payments cs (owed_by due keys)) r s'
