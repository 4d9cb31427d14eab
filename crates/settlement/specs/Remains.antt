-- When lent memory holds what is left of some mornings, and what one more is answered. Assumes nothing: these are definitions.
use Rattle.std.specs.Prelude.{◌≡◌, ℕ, ◌*◌, ◌<◌, ◌≤◌, List, [], ◌∷◌, ◌++◌, length, ℤ, Result, MatchResult, slice_index_or}
use Rattle.deals.specs.Contract.{Morning, all_days, all_deals}
use Rattle.deals.specs.Promise.{Fit, thin}
use Rattle.deals.specs.House as model
use Rattle.deals.specs.Kept.{house_after}
use Rattle.deals.specs.Payments.{gone}
use Rattle.texts.specs.declared.stages.Stage.TheVariants.{Thin}
use Rattle.mornings.specs.declared.Start.{Start}
use Rattle.mornings.specs.Verdict.{Fault, fault, Verdict, taken, refused}
use Rattle.mornings.specs.Judgement.{fault_of, MorningRead}
use Rattle.mornings.specs.Pairs.{net_payments, Written}
use Rattle.mornings.specs.Written.{StartFits}
use Rattle.fixings.specs.Fixings.{HoldsRates}
use Rattle.settlement.specs.declared.House.{House}
use Rattle.settlement.specs.declared.NotTaken.{NotTaken}
use Rattle.settlement.specs.declared.NotTaken.TheVariants.{Refused, TooShort}
use Rattle.settlement.specs.declared.room.Lent.{Lent}
use Rattle.settlement.specs.declared.room.Lengths.{Lengths}
use Rattle.settlement.specs.Keeping.{Keeps}
use Rattle.settlement.specs.Room.{slice_number, wanted, LongEnough, FirstShort}

-- the number and the place of each refusal
abbrev pub refusal_of : NotTaken → Fault
refusal_of (Refused e) = fault_of e
refusal_of (TooShort s) = fault 5 (slice_number s)

-- the numbers of a house, and what is lent to it
pub record Memory : Type 0 where
  pub house : House
  pub deals : List ℕ
  pub rates : List ℤ
  pub work : List ℕ
  pub payments : List ℕ

abbrev pub memory : House → List ℕ → List ℤ → List ℕ → List ℕ → Memory
memory house deals rates work payments = record { house = house; deals = deals; rates = rates; work = work; payments = payments }

-- a house on which no morning has come
abbrev pub new_house : Start → House
new_house st = record { start = st; day = 0; deals = 0 }

-- the house of the model after some mornings: of each deal only what is left of it
abbrev pub left_of : Start → List Morning → model.House
left_of st ms = house_after thin st.houses st.rates st.currencies ms

-- the memory holds what is left of some mornings in bounds: of deals and of rates that is said where their slices are long enough for those mornings
pub record Remains (m : Memory) (ms : List Morning) : Type 0 where
  pub start : StartFits m.house.start
  pub fit : Fit thin m.house.start.houses m.house.start.rates m.house.start.currencies 0 ms
  pub days : m.house.day ≡ length ms
  pub in_time : length ms ≤ 65536
  pub many : m.house.deals ≡ length (all_deals ms)
  pub few : length (all_deals ms) ≤ 65536
  pub left : 16384 * length (all_deals ms) ≤ length m.deals → (c : ℕ) → c < length (all_deals ms) → Keeps m.deals c (slice_index_or (left_of m.house.start ms).held c gone)
  pub rates : 4097 * m.house.start.rates ≤ length m.rates → HoldsRates m.rates m.house.start.rates (all_days ms)

-- what the bytes of a morning are answered after others, with slices of these lengths: first their judgement, and at the last whether the slices are long enough
pub data Answer (st : Start) (ms : List Morning) (bytes : List ℕ) (lent : Lengths) : Verdict Morning → Type 0 where
  refuses : {e : Fault} → MorningRead Thin st (length ms) (length (all_deals ms)) bytes 0 (refused e) → Answer st ms bytes lent (refused e)
  is_short : {m : Morning} {s : Lent} → MorningRead Thin st (length ms) (length (all_deals ms)) bytes 0 (taken m (length bytes)) →
      FirstShort (wanted st (all_deals (ms ++ m ∷ []))) lent s → Answer st ms bytes lent (refused (fault 5 (slice_number s)))
  takes : {m : Morning} → MorningRead Thin st (length ms) (length (all_deals ms)) bytes 0 (taken m (length bytes)) →
      LongEnough (wanted st (all_deals (ms ++ m ∷ []))) lent → Answer st ms bytes lent (taken m (length bytes))

-- how long the slices are
abbrev pub lengths : Memory → List ℕ → Lengths
lengths m sums = record { deals = length m.deals; rates = length m.rates; work = length m.work; payments = length m.payments; sums = length sums }

-- a morning more was taken: the memory holds what is left of all, and at the front of the payments stand those that the meaning of all contracts gives for the day; behind them all is as it was
pub record Took (m : Memory) (sums bytes : List ℕ) (n : ℕ) (m' : Memory) (ms : List Morning) : Type 0 where
  pub morning : Morning
  pub answer : Answer m.house.start ms bytes (lengths m sums) (taken morning (length bytes))
  pub start : m'.house.start ≡ m.house.start
  pub remains : Remains m' (ms ++ morning ∷ [])
  pub paid : Written m.payments (net_payments m.house.start (ms ++ morning ∷ [])) n m'.payments

-- how bytes are judged by the house's own numbers, whatever the memory holds: refused, or taken as some morning, though a slice may be too short
abbrev pub JudgedAs : Memory → List ℕ → Verdict Morning → Type 0
JudgedAs m bytes v = MorningRead Thin m.house.start m.house.day m.house.deals bytes 0 v

abbrev pub JudgedTaken : Memory → List ℕ → Type 0
JudgedTaken m bytes = (morning : Morning) × JudgedAs m bytes (taken morning (length bytes))

abbrev pub JudgedBy : Memory → List ℕ → NotTaken → Type 0
JudgedBy m bytes (Refused e) = JudgedAs m bytes (refused (fault_of e))
JudgedBy m bytes (TooShort s) = JudgedTaken m bytes

-- what the public call answers, and what the memory then holds: where nothing is taken all of it is as it was, whatever it held
pub record Takes (m : Memory) (sums bytes : List ℕ) (r : Result ℕ NotTaken) (m' : Memory) : Type 0 where
  pub unchanged : MatchResult r (λ _. Unit {0}) (λ _. m' ≡ m)
  pub judged : MatchResult r (λ _. JudgedTaken m bytes) (JudgedBy m bytes)
  pub answers : (ms : List Morning) → Remains m ms → MatchResult r (λ n. Took m sums bytes n m' ms) (λ e. Answer m.house.start ms bytes (lengths m sums) (refused (refusal_of e)))
