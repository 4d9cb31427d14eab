-- When a history stands for some mornings, and what is answered when one more comes. Assumes nothing: these are definitions.
use Rattle.std.specs.Prelude.{◌≡◌, ℕ, ◌+◌, ◌*◌, ◌≤◌, vec_len, vec_capacity, List, [], ◌∷◌, ◌++◌, length, Result, MatchResult}
use Rattle.deals.specs.Contract.{Morning, all_deals}
use Rattle.texts.specs.declared.stages.Stage.TheVariants.{All}
use Rattle.mornings.specs.Verdict.{taken, refused}
use Rattle.mornings.specs.Judgement.{fault_of, MorningRead}
use Rattle.mornings.specs.Payments.{payments_bytes}
use Rattle.mornings.specs.declared.Start.{Start}
use Rattle.mornings.specs.Pairs.{net_payments}
use Rattle.replay.specs.Standing.{MorningsStand}
use Rattle.history.specs.declared.History.{History}
use Rattle.history.specs.declared.NotTaken.{NotTaken}
use Rattle.history.specs.declared.NotTaken.TheVariants.{Refused, OutOfMemory}

abbrev pub start_of : History → Start
start_of h = h.start

-- the bytes of the payments of the last morning
abbrev pub payment_bytes : History → List ℕ
payment_bytes h = h.payments.items

-- the bytes that are kept are those of these mornings, each taken on its day
pub record Stands (h : History) (ms : List Morning) : Type 0 where
  pub mornings : MorningsStand h.start h.kept.items h.days.items ms
  pub deals : h.so_far ≡ length (all_deals ms)
  pub few : length (all_deals ms) ≤ 65536
  pub in_time : length ms ≤ 65536

-- the mornings that are kept are the same
pub record Same (h h' : History) : Type 0 where
  pub start : h'.start ≡ h.start
  pub kept : h'.kept.items ≡ h.kept.items
  pub days : h'.days.items ≡ h.days.items
  pub deals : h'.so_far ≡ h.so_far

-- there is room for a morning of so many bytes, and to work with so many deals more
pub record HasRoom (bytes deals : ℕ) (h : History) : Type 0 where
  pub kept : vec_len h.kept + bytes ≤ vec_capacity h.kept
  pub days : vec_len h.days + 1 ≤ vec_capacity h.days
  pub deals_long : length h.deals.items ≡ h.so_far + deals
  pub keys_long : length h.keys.items ≡ h.so_far + deals
  pub payments_long : length h.payments.items ≡ 13 * ((h.so_far + deals) * h.start.currencies)

-- one morning more was taken: it is the one that its bytes are read as, and the payment bytes are those of what all mornings owe on the last day
pub record Took (h : History) (s : List ℕ) (h' : History) (ms : List Morning) : Type 0 where
  pub morning : Morning
  pub read : MorningRead All h.start (length ms) (length (all_deals ms)) s 0 (taken morning (length s))
  pub stands : Stands h' (ms ++ morning ∷ [])
  pub pays : payment_bytes h' ≡ payments_bytes (net_payments h.start (ms ++ morning ∷ []))

-- no morning more was taken: its bytes are refused, or memory has run out
abbrev pub Refuses : NotTaken → History → List ℕ → List Morning → Type 0
Refuses (Refused e) h s ms = MorningRead All h.start (length ms) (length (all_deals ms)) s 0 (refused (fault_of e))
Refuses OutOfMemory h s ms = Unit {0}

-- and the payment bytes are those of before, unless memory has run out
abbrev pub PaysAsBefore : NotTaken → History → History → Type 0
PaysAsBefore (Refused e) h h' = payment_bytes h' ≡ payment_bytes h
PaysAsBefore OutOfMemory h h' = Unit {0}

pub record Left (e : NotTaken) (h : History) (s : List ℕ) (h' : History) (ms : List Morning) : Type 0 where
  pub why : Refuses e h s ms
  pub pays : PaysAsBefore e h h'
  pub stands : Stands h' ms

-- what a history answers to the bytes of a morning; its start stays
pub record Takes (h : History) (s : List ℕ) (r : Result (Unit {0}) NotTaken) (h' : History) : Type 0 where
  pub start : start_of h' ≡ start_of h
  pub answers : (ms : List Morning) → Stands h ms → MatchResult r (λ _. Took h s h' ms) (λ e. Left e h s h' ms)
