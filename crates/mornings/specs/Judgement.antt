-- Which bytes are a start or a morning, and where others are first in fault. Assumes nothing: these are definitions.
use Rattle.std.specs.Prelude.{◌≡◌, ℕ, zero, suc, ◌+◌, ◌<◌, ◌≤◌, Bool, true, false, ◌≢◌, List, length, drop, ℤ, Result, Ok, Err, MatchResult, unsigned_abs}
use Rattle.std.specs.Int.{w64}
use Rattle.std.proofs.Common.{to_z}
use Rattle.deals.specs.Contract.{Contract, Deal, Choice, Morning}
use Rattle.octets.specs.Octets.{field}
use Rattle.texts.specs.Text.{GoesOn, RefusedAt}
use Rattle.texts.specs.Bounds.{TextTaken, TextRefused}
use Rattle.texts.specs.Stages.{built_at}
use Rattle.texts.specs.declared.stages.Stage.{Stage}
use Rattle.mornings.specs.Verdict.{Fault, fault, Verdict, taken, refused, Reading, Field, Number, ◌then◌, Done, Row, End}
use Rattle.mornings.specs.declared.Refusal.{Refusal}
use Rattle.mornings.specs.declared.Refusal.TheVariants.{NoContract, Limit, NoMorning, TooMany}
use Rattle.mornings.specs.declared.Start.{Start}
use Rattle.mornings.specs.declared.Ends.{Ends}

-- the number and the place of each refusal
abbrev pub fault_of : Refusal → Fault
fault_of (NoContract p) = fault 1 p
fault_of (Limit p) = fault 2 p
fault_of (NoMorning p) = fault 3 p
fault_of (TooMany p) = fault 4 p

-- what a function answers that reads a part: the value and the place behind it, or the refusal
abbrev pub Reads : {A : Type 0} → Reading A → List ℕ → ℕ → Result (A × ℕ) Refusal → Type 0
Reads R s i r = MatchResult r (λ p. R s i (taken p.0 p.1)) (λ e. R s i (refused (fault_of e)))

-- the same of a number, where a function was handed in that tests which values are right
abbrev pub ReadsTested : {A : Type 0} → ℕ → (ℕ → A) → (A → Bool → Type 0) → List ℕ → ℕ → Result (A × ℕ) Refusal → Type 0
ReadsTested {A} n means Tests s i r = (test : A → Bool) → ((a : A) (b : Bool) → Tests a b → b ≡ test a) → Reads (Field n means (λ a. test a ≡ true)) s i r

-- the same, where the value is not kept
abbrev pub Passes : {A : Type 0} → Reading A → List ℕ → ℕ → Result ℕ Refusal → Type 0
Passes {A} R s i r = MatchResult r (λ to. (a : A) × R s i (taken a to)) (λ e. R s i (refused (fault_of e)))

-- so many parts in a row were read, by their number and each from where the one before ended: where the last ended, or the first refusal. Answers is what may be answered for one
pub data RowRuns (Answers : ℕ → ℕ → Result ℕ Refusal → Type 0) : ℕ → ℕ → ℕ → Result ℕ Refusal → Type 0 where
  all : {c i : ℕ} → RowRuns Answers zero c i (Ok i)
  next : {n c i j : ℕ} {r : Result ℕ Refusal} → Answers c i (Ok j) → RowRuns Answers n (suc c) j r → RowRuns Answers (suc n) c i r
  stops : {n c i : ℕ} {e : Refusal} → Answers c i (Err e) → RowRuns Answers (suc n) c i (Err e)

-- any number will do
abbrev pub Any : ℕ → Type 0
Any n = Unit {0}

-- a start: houses, rates and currencies, up to so many
abbrev pub StartRead : Reading Start
StartRead =
    Number 2 (λ n. n ≤ 1024) then λ houses.
    Number 2 (λ n. n ≤ 256) then λ rates.
    Number 1 (λ n. n ≤ 64) then λ currencies.
    End then λ _.
    Done (record { houses = houses; rates = rates; currencies = currencies })

-- a contract in a text of n bytes. A text too long is refused as its length is known, before anything in it is read, be it cut or not. A text that passes the end is
-- refused where no contract's text goes on so, if that is among the bytes that there are, and else just past the end: a text that is cut passes no limit. A contract that
-- the house isn't built for yet is refused at its first byte, once its text was read and found in bounds
pub data TextRead (stage : Stage) (st : Start) (n : ℕ) (s : List ℕ) (i : ℕ) : Verdict Contract → Type 0 where
  too_long : 8192 < n → TextRead stage st n s i (refused (fault 2 i))
  no_text : {k p : ℕ} → n ≤ 8192 → i + n ≤ length s → TextRefused st.rates st.currencies (field n s i) k p → TextRead stage st n s i (refused (fault k (i + p)))
  not_built : {x : Contract} →
      n ≤ 8192 → i + n ≤ length s → TextTaken st.rates st.currencies (field n s i) x → built_at stage x ≡ false → TextRead stage st n s i (refused (fault 1 i))
  a_contract : (x : Contract) →
      n ≤ 8192 → i + n ≤ length s → TextTaken st.rates st.currencies (field n s i) x → built_at stage x ≡ true → TextRead stage st n s i (taken x (i + n))
  cut_off : {p : ℕ} → n ≤ 8192 → length s < i + n → RefusedAt (drop i s) p → i + p < length s → TextRead stage st n s i (refused (fault 1 (i + p)))
  cut_short : n ≤ 8192 → length s < i + n → GoesOn (drop i s) → TextRead stage st n s i (refused (fault 3 (length s)))

-- the fault of what comes too many, at its first byte, unless its first part has a fault at that same byte
pub data IsTooMany {B : Type 0} (First : Reading B) (s : List ℕ) (i : ℕ) : Fault → Type 0 where
  first_fault : {e : Fault} → First s i (refused e) → e.place ≡ i → IsTooMany First s i e
  no_room : ((e : Fault) → First s i (refused e) → e.place ≢ i) → IsTooMany First s i (fault 4 i)

-- what comes with a number; from 65,536 on it is too many
pub data Limited {A B : Type 0} (c : ℕ) (First : Reading B) (R : Reading A) (s : List ℕ) (i : ℕ) : Verdict A → Type 0 where
  few : {v : Verdict A} → c < 65536 → R s i v → Limited c First R s i v
  many : {e : Fault} → 65536 ≤ c → IsTooMany First s i e → Limited c First R s i (refused e)

-- a house, by its number
abbrev pub HouseRead : Start → Reading ℕ
HouseRead st = Number 2 (λ n. n < st.houses)

-- a deal: who holds, the other, from which day on, and the contract
abbrev pub DealFields : Stage → Start → ℕ → Reading Deal
DealFields stage st day =
    HouseRead st then λ holder.
    Number 2 (λ n. (n < st.houses) × (n ≢ holder)) then λ other.
    Number 4 (λ d. (day ≤ d) × (d < 65536)) then λ from.
    Number 2 Any then λ n.
    TextRead stage st n then λ x.
    Done (record { holder = holder; other = other; contract = x; from = from })

-- deal number c, on a day
abbrev pub DealRead : Stage → Start → ℕ → ℕ → Reading Deal
DealRead stage st day c = Limited c (HouseRead st) (DealFields stage st day)

-- a rate, up to 10^9 in size
abbrev pub RateRead : Reading ℤ
RateRead = Field 8 (to_z w64) (λ a. unsigned_abs a ≤ 1000000000)

abbrev pub StepRead : Reading ℕ
StepRead = Number 1 (λ b. b ≤ 1)

-- a choice: the number of a deal, and a way of at most 64 steps, each 0 or 1
abbrev pub ChoiceRead : Reading Choice
ChoiceRead =
    Number 4 (λ d. d < 65536) then λ deal.
    Number 1 (λ n. n ≤ 64) then λ n.
    Row n (λ _. StepRead) 0 then λ way.
    Done (record { of = deal; at = way })

-- a morning: deals, all rates, choices, and nothing behind them
abbrev pub MorningFields : Stage → Start → ℕ → ℕ → Reading Morning
MorningFields stage st day so_far =
    Number 2 Any then λ n.
    Row n (DealRead stage st day) so_far then λ deals.
    Row st.rates (λ _. RateRead) 0 then λ rates.
    Number 2 Any then λ m.
    Row m (λ _. ChoiceRead) 0 then λ choices.
    End then λ _.
    Done (record { deals = deals; day = record { rates = rates; choices = choices } })

-- a morning, on a day and with so many deals before it
abbrev pub MorningRead : Stage → Start → ℕ → ℕ → Reading Morning
MorningRead stage st day so_far = Limited day (Number 2 Any) (MorningFields stage st day so_far)

-- the parts of a morning that was taken, by their places
pub record LaidOut (stage : Stage) (st : Start) (day so_far : ℕ) (s : List ℕ) (ends : Ends) (m : Morning) : Type 0 where
  pub whole : MorningRead stage st day so_far s 0 (taken m (length s))
  pub deals : Row ends.deals (DealRead stage st day) so_far s 2 (taken m.deals ends.rates_at)
  pub rates : (to : ℕ) × Row st.rates (λ _. RateRead) 0 s ends.rates_at (taken m.day.rates to)
  pub choices : (to : ℕ) × Row ends.choices (λ _. ChoiceRead) 0 s ends.choices_at (taken m.day.choices to)

-- what is answered for a start, and for a morning
abbrev pub StartJudged : List ℕ → Result Start Refusal → Type 0
StartJudged s r = MatchResult r (λ start. StartRead s 0 (taken start (length s))) (λ e. StartRead s 0 (refused (fault_of e)))

abbrev pub MorningJudged : Stage → Start → ℕ → ℕ → List ℕ → Result Ends Refusal → Type 0
MorningJudged stage st day so_far s r =
    MatchResult r (λ ends. (m : Morning) × LaidOut stage st day so_far s ends m) (λ e. MorningRead stage st day so_far s 0 (refused (fault_of e)))
