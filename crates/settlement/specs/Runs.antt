-- Whole runs of a house: mornings one after the other, each answered as the public call promises. Assumes nothing: these are definitions and statements, whose proof a function's contract asks for.
use Rattle.std.specs.Prelude.{◌≡◌, ℕ, ◌+◌, ◌-◌, ◌*◌, ◌<◌, ◌≤◌, ◌≢◌, List, [], ◌∷◌, ◌++◌, length, take, ℤ, pos, ◌+ℤ◌, Ok, Err, slice_index_or}
use Rattle.deals.specs.Contract.{Deal, Morning, flows, net, all_days, all_deals}
use Rattle.deals.specs.Promise.{thin, SamePaid, ThinBuilt, moves, all_of}
use Rattle.deals.specs.Later.{net_on}
use Rattle.deals.specs.House as model
use Rattle.texts.specs.declared.stages.Stage.TheVariants.{Thin}
use Rattle.mornings.specs.declared.Start.{Start}
use Rattle.mornings.specs.Verdict.{Verdict, taken}
use Rattle.mornings.specs.Judgement.{MorningRead}
use Rattle.mornings.specs.Payments.{payments_bytes, bytes_pay}
use Rattle.mornings.specs.Pairs.{net_payments}
use Rattle.mornings.specs.Written.{StartFits}
use Rattle.settlement.specs.declared.NotTaken.{NotTaken}
use Rattle.settlement.specs.Directory.{entry_of, part_of}
use Rattle.settlement.specs.declared.room.Lengths.{Lengths}
use Rattle.settlement.specs.Remains.{Memory, new_house, Remains, Answer, Takes}

-- of each deal so far the same entry, and the same part if something is left of it
pub record DealsAlike (n : ℕ) (s s' : List ℕ) : Type 0 where
  pub long : 16384 * n ≤ length s
  pub entries : (c : ℕ) → c < n → entry_of s' c ≡ entry_of s c
  pub parts : (c : ℕ) → c < n → 0 < (entry_of s c).kept.rows → part_of s' c ≡ part_of s c

-- the same rates of 4,097 days
pub record RatesAlike (n : ℕ) (words words' : List ℤ) : Type 0 where
  pub long : 4097 * n ≤ length words
  pub same : (i : ℕ) → i < 4097 * n → slice_index_or words' i (pos 0) ≡ slice_index_or words i (pos 0)

-- the same house, lent other slices. Those that are long enough for what was kept have it still: the deals, but for the parts of which nothing is left, and the rates once there was a morning. Of work and of payments anything
pub record Alike (m m' : Memory) : Type 0 where
  pub house : m'.house ≡ m.house
  pub deals : 16384 * m.house.deals ≤ length m'.deals → DealsAlike m.house.deals m.deals m'.deals
  pub rates : 0 < m.house.day → 4097 * m.house.start.rates ≤ length m'.rates → RatesAlike m.house.start.rates m.rates m'.rates

-- how many payments there were on a day, and the bytes at whose front they stand
pub record Paying : Type 0 where
  pub count : ℕ
  pub bytes : List ℕ

-- the mornings that were taken, what was paid on each, and the memory then. Between mornings other slices may be lent
pub data Run (st : Start) : List Morning → List Paying → Memory → Type 0 where
  begins : (m : Memory) → StartFits st → m.house ≡ new_house st → Run st [] [] m
  takes : {ms : List Morning} {ps : List Paying} {m m' : Memory} {sums bytes : List ℕ} {n : ℕ} {morning : Morning} → Run st ms ps m → Takes m sums bytes (Ok n) m' →
      MorningRead Thin st (length ms) (length (all_deals ms)) bytes 0 (taken morning (length bytes)) → Run st (ms ++ morning ∷ []) (ps ++ record { count = n; bytes = m'.payments } ∷ []) m'
  refuses : {ms : List Morning} {ps : List Paying} {m m' : Memory} {sums bytes : List ℕ} {e : NotTaken} → Run st ms ps m → Takes m sums bytes (Err e) m' → Run st ms ps m'
  lends : {ms : List Morning} {ps : List Paying} {m m' : Memory} → Run st ms ps m → Alike m m' → Run st ms ps m'

-- what was paid on the last of some mornings: the payments of the meaning, in order, at the front of the bytes; so the bytes say of each two houses what the meaning says, and what one pays the other gets
pub record PaidOn (st : Start) (ms : List Morning) (p : Paying) : Type 0 where
  pub count : p.count ≡ length (net_payments st ms)
  pub bytes : take (13 * p.count) p.bytes ≡ payments_bytes (net_payments st ms)
  pub says : (k a b : ℕ) → k < st.currencies → a < st.houses → b < st.houses → a ≢ b → bytes_pay p.count p.bytes k a b ≡ net ms k a b
  pub two_sided : (k a b : ℕ) → a ≢ b → bytes_pay p.count p.bytes k a b +ℤ bytes_pay p.count p.bytes k b a ≡ pos 0

-- on each day it was so for the mornings up to that day, whatever came later
unfoldable pub PaidEach : Start → List Morning → List Morning → List Paying → Type 0
PaidEach st done [] [] = Unit {0}
PaidEach st done (m ∷ ms) (p ∷ ps) = PaidOn st (done ++ m ∷ []) p × PaidEach st (done ++ m ∷ []) ms ps
PaidEach st done [] (p ∷ ps) = ⊥
PaidEach st done (m ∷ ms) [] = ⊥

-- the bytes of a morning have one answer at most
abbrev pub OneAnswer : Type 0
OneAnswer = (st : Start) (ms : List Morning) (bytes : List ℕ) (lent : Lengths) (v w : Verdict Morning) → Answer st ms bytes lent v → Answer st ms bytes lent w → v ≡ w

-- the memory of a house on which no morning has come holds what is left of none
abbrev pub NoneRemains : Type 0
NoneRemains = (st : Start) (m : Memory) → StartFits st → m.house ≡ new_house st → Remains m []

-- with other slices lent, and with anything in the parts of deals of which nothing is left, it holds what is left of the same mornings: so the house pays the same
abbrev pub AnythingElse : Type 0
AnythingElse = (m m' : Memory) (ms : List Morning) → Alike m m' → Remains m ms → Remains m' ms

-- so the memory holds in every run what is left of the mornings taken, and on each day what was paid is what the meaning says
abbrev pub RunsPay : Type 0
RunsPay = (st : Start) (ms : List Morning) (ps : List Paying) (m : Memory) → Run st ms ps m → Remains m ms × PaidEach st [] ms ps

-- and it is what the meaning gives for that day once all mornings of the run are known, those that came later too
abbrev pub RunsLater : Type 0
RunsLater =
    (st : Start) (ms later : List Morning) (ps qs : List Paying) (p : Paying) (m : Memory) (k a b : ℕ) → Run st (ms ++ later) (ps ++ p ∷ qs) m → length ps + 1 ≡ length ms →
    k < st.currencies → a < st.houses → b < st.houses → a ≢ b → bytes_pay p.count p.bytes k a b ≡ net_on (length ms - 1) (ms ++ later) k a b

-- with other slices lent a morning's payments are the same
abbrev pub PaysTheSame : Type 0
PaysTheSame =
    (m n m' n' : Memory) (ms : List Morning) (sums sums' bytes : List ℕ) (i j : ℕ) → Alike m n → Remains m ms → Takes m sums bytes (Ok i) m' → Takes n sums' bytes (Ok j) n' →
    (i ≡ j) × (take (13 * i) m'.payments ≡ take (13 * j) n'.payments)

-- what flows under a deal in a currency, over all days of a run, is at most what its contract can move
abbrev pub RunsWithin : Type 0
RunsWithin =
    (st : Start) (ms : List Morning) (ps : List Paying) (m : Memory) (c k : ℕ) (d : Deal) → Run st ms ps m → c < length (all_deals ms) → slice_index_or (all_deals ms) c d ≡ d →
    (all_of k (flows (all_days ms) c [] d.contract d.from) ≤ moves d.contract) × (moves d.contract < 1099511627776)

-- the model that the public call's promise names pays what the meaning says, and every contract of the thin house is taken
abbrev pub ModelPays : Type 0
ModelPays = SamePaid thin model.House model.start model.happens model.pays_now × ThinBuilt thin model.House model.start model.happens model.pays_now
