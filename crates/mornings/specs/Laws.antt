-- What is true of starts and mornings in bytes. Each is a statement, whose proof a function's contract asks for. Assumes nothing.
use Rattle.std.specs.Prelude.{◌≡◌, ℕ, suc, ◌+◌, ◌*◌, ◌<◌, ◌≤◌, Bool, true, ◌⊎◌, List, [], ◌∷◌, length, take, drop, ℤ, slice_index, slice_index_or}
use Rattle.deals.specs.Contract.{Contract, Deal, Choice, Morning, all_deals}
use Rattle.deals.specs.Promise.{Fit}
use Rattle.octets.specs.Octets.{field}
use Rattle.texts.specs.Bounds.{TextTaken}
use Rattle.texts.specs.Stages.{built_at}
use Rattle.texts.specs.declared.stages.Stage.{Stage}
use Rattle.mornings.specs.Verdict.{Fault, Verdict, taken, refused, Reading, Row}
use Rattle.mornings.specs.Judgement.{StartRead, DealRead, RateRead, ChoiceRead, MorningRead}
use Rattle.mornings.specs.Places.{deal_at, rate_at, choice_at, IsDeal, IsChoice}
use Rattle.mornings.specs.Written.{StartFits, start_bytes, PiecesOf, MorningWritten, InTurn, in_a_row}
use Rattle.mornings.specs.declared.Start.{Start}

-- bytes have one verdict at most
abbrev pub OneVerdict : Type 0
OneVerdict =
    ((s : List ℕ) (v w : Verdict Start) → StartRead s 0 v → StartRead s 0 w → v ≡ w)
    × ((stage : Stage) (st : Start) (day so_far : ℕ) (s : List ℕ) (v w : Verdict Morning) →
    MorningRead stage st day so_far s 0 v → MorningRead stage st day so_far s 0 w → v ≡ w)

-- what is handed out at the place of a deal, a rate or a choice is that deal, rate or choice
abbrev pub HandedOut : Type 0
HandedOut =
    ((stage : Stage) (st : Start) (day c i j : ℕ) (s : List ℕ) (d : Deal) → DealRead stage st day c s i (taken d j) → IsDeal stage st s (deal_at s i) d j)
    × ((n c i j k : ℕ) (s : List ℕ) (rs : List ℤ) (a : ℤ) → Row n (λ _. RateRead) c s i (taken rs j) → k < n → (slice_index_or rs k a ≡ rate_at s (i + 8 * k)) × (i + 8 * k + 8 ≤ length s))
    × ((i j : ℕ) (s : List ℕ) (c : Choice) → ChoiceRead s i (taken c j) → IsChoice s (choice_at s i) c j)

-- a row that was taken has as many parts as were asked for; its first part stands at the front, and behind it the rest
abbrev pub Walks : {A : Type 0} → (ℕ → Reading A) → Type 0
Walks {A} R =
    ((n c i j : ℕ) (s : List ℕ) (xs : List A) → Row n R c s i (taken xs j) → length xs ≡ n)
    × ((n c i j : ℕ) (s : List ℕ) (xs : List A) → Row (suc n) R c s i (taken xs j) →
    (x : A) × (rest : List A) × (k : ℕ) × (xs ≡ x ∷ rest) × R c s i (taken x k) × Row n R (suc c) s k (taken rest j))

abbrev pub Walked : Type 0
Walked = ((stage : Stage) (st : Start) (day : ℕ) → Walks (DealRead stage st day)) × Walks (λ _. ChoiceRead)

-- IN BOUNDS

-- a morning in bounds, on a day and with so many deals before it: there is room for it, and it fits
pub record InBounds (stage : Stage) (st : Start) (day so_far : ℕ) (m : Morning) : Type 0 where
  pub in_time : day < 65536
  pub room : so_far + length m.deals ≤ 65536
  pub fit : Fit (built_at stage) st.houses st.rates st.currencies day (m ∷ [])

-- a start or a morning in bounds, as it is written, with any texts of its contracts, is taken as that start or morning
abbrev pub WrittenTaken : Type 0
WrittenTaken =
    ((st : Start) → StartFits st → StartRead (start_bytes st) 0 (taken st (length (start_bytes st))))
    × ((stage : Stage) (st : Start) (day so_far : ℕ) (m : Morning) (s : List ℕ) →
    StartFits st → InBounds stage st day so_far m → MorningWritten m s → MorningRead stage st day so_far s 0 (taken m (length s)))

-- every morning in bounds can be written, so that there are bytes from which it is taken
abbrev pub EveryTaken : Type 0
EveryTaken =
    (stage : Stage) (st : Start) (day so_far : ℕ) (m : Morning) → StartFits st → InBounds stage st day so_far m →
    (s : List ℕ) × MorningWritten m s × MorningRead stage st day so_far s 0 (taken m (length s))

-- pieces that were written one after the other, from the first byte on, stand there, up to the place behind the last; the bytes behind that are as they were
abbrev pub PiecesStand : Type 0
PiecesStand =
    (pieces : List (List ℕ)) (s u : List ℕ) (k : ℕ) → length (in_a_row pieces) ≤ length s → InTurn pieces s 0 u k →
    (take k u ≡ in_a_row pieces) × (k ≡ length (in_a_row pieces)) × (drop k u ≡ drop k s)

-- so a morning in bounds that was written piece by piece is judged as what was written
abbrev pub PiecesJudged : Type 0
PiecesJudged =
    (stage : Stage) (st : Start) (day so_far : ℕ) (m : Morning) (pieces : List (List ℕ)) (s u : List ℕ) (k : ℕ) →
    StartFits st → InBounds stage st day so_far m → PiecesOf m pieces → length (in_a_row pieces) ≤ length s → InTurn pieces s 0 u k →
    MorningRead stage st day so_far (take k u) 0 (taken m k)

-- mornings that were taken, each from its own bytes, on one day after the other, with so many deals before the first
pub data JudgedAll (stage : Stage) (st : Start) : ℕ → ℕ → List Morning → Type 0 where
  no_more : {day so_far : ℕ} → JudgedAll stage st day so_far []
  one_more : {day so_far : ℕ} {m : Morning} {ms : List Morning} (s : List ℕ) →
      ((k : ℕ) → slice_index s k < 256) → MorningRead stage st day so_far s 0 (taken m (length s)) → JudgedAll stage st (suc day) (so_far + length m.deals) ms →
      JudgedAll stage st day so_far (m ∷ ms)

-- what is taken is in bounds: a start, and mornings from any day on
abbrev pub TakenFits : Type 0
TakenFits =
    ((s : List ℕ) (st : Start) (j : ℕ) → StartRead s 0 (taken st j) → StartFits st)
    × ((stage : Stage) (st : Start) (day so_far : ℕ) (ms : List Morning) → day ≤ 65536 → so_far ≤ 65536 → JudgedAll stage st day so_far ms →
    Fit (built_at stage) st.houses st.rates st.currencies day ms × (so_far + length (all_deals ms) ≤ 65536) × (day + length ms ≤ 65536))

-- the same bytes are never taken as two mornings, so two mornings in bounds are never written in the same bytes
abbrev pub NeverSame : Type 0
NeverSame =
    ((stage : Stage) (st : Start) (day so_far : ℕ) (m n : Morning) (s : List ℕ) (j k : ℕ) →
    MorningRead stage st day so_far s 0 (taken m j) → MorningRead stage st day so_far s 0 (taken n k) → m ≡ n)
    × ((stage : Stage) (st : Start) (day so_far : ℕ) (m n : Morning) (s : List ℕ) →
    StartFits st → InBounds stage st day so_far m → InBounds stage st day so_far n → MorningWritten m s → MorningWritten n s → m ≡ n)

-- FRONT TO BACK

-- the bytes from a fault's place on that it is told by: of a field, at most eight, and of a text at most one. It is the same in all bytes that agree up to their end
pub record Told (s : List ℕ) (e : Fault) (Refused : List ℕ → Type 0) : Type 0 where
  pub width : ℕ
  pub few : width ≤ 8
  pub one_of_a_text : e.number ≡ 1 → width ≤ 1
  pub within : e.place + width ≤ length s
  pub same : (t : List ℕ) → take (e.place + width) s ≡ take (e.place + width) t → Refused t

-- a fault in a field, with 3, that is none of the end; or one of a text, with 1, where every contract in bounds whose text begins at that byte is built
abbrev pub Plain : (Contract → Bool) → Start → Fault → List ℕ → Type 0
Plain built st e s =
    ((e.number ≡ 3) × (e.place < length s))
    ⊎ ((e.number ≡ 1) × ((n : ℕ) (x : Contract) → TextTaken st.rates st.currencies (field n s e.place) x → built x ≡ true))

-- such a fault does not depend on the bytes behind it
abbrev pub FrontToBack : Type 0
FrontToBack =
    ((s : List ℕ) (e : Fault) → StartRead s 0 (refused e) → e.place < length s → Told s e (λ t. StartRead t 0 (refused e)))
    × ((stage : Stage) (st : Start) (day so_far : ℕ) (s : List ℕ) (e : Fault) →
    MorningRead stage st day so_far s 0 (refused e) → Plain (built_at stage) st e s → Told s e (λ t. MorningRead stage st day so_far t 0 (refused e)))
