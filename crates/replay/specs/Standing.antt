-- When lent memory stands for mornings that were taken, and what is then paid on the last of them. Assumes nothing: these are definitions.
use Rattle.std.specs.Prelude.{◌≡◌, ℕ, ◌+◌, ◌*◌, ◌<◌, ◌≤◌, List, [], ◌∷◌, ◌++◌, length, get_or, take, Result, MatchResult, slice_index_or}
use Rattle.deals.specs.Contract.{Morning, no_day, all_deals}
use Rattle.texts.specs.declared.stages.Stage.TheVariants.{All}
use Rattle.mornings.specs.Judgement.{LaidOut}
use Rattle.mornings.specs.Written.{StartFits}
use Rattle.mornings.specs.declared.Start.{Start}
use Rattle.mornings.specs.declared.Ends.{Ends}
use Rattle.replay.specs.declared.days.DayAt.{DayAt}
use Rattle.replay.specs.declared.settle.Short.{Short}
use Rattle.replay.specs.declared.settle.Short.TheVariants.{Deals, Keys, Payments}
use Rattle.replay.specs.Days.{nowhere, bytes_of}
use Rattle.mornings.specs.Pairs.{net_payments, Written}

abbrev pub no_morning : Morning
no_morning = record { deals = []; day = no_day }

-- each morning was taken from its bytes, on its day, with the deals of those before it
pub record MorningsStand (st : Start) (kept : List ℕ) (days : List DayAt) (ms : List Morning) : Type 0 where
  pub start : StartFits st
  pub many : length days ≡ length ms
  pub within : (t : ℕ) → t < length ms → (get_or days t nowhere).to ≤ length kept
  pub judged : (t : ℕ) → t < length ms →
      LaidOut All st t (length (all_deals (take t ms))) (bytes_of kept (slice_index_or days t nowhere)) (get_or days t nowhere).parts (slice_index_or ms t no_morning)

-- AS A LAW: with no mornings nothing is kept; a morning that is judged on the next day, and kept behind the others, stands there too. So it is true of every run
abbrev pub StandsAnew : Type 0
StandsAnew =
    ((st : Start) → StartFits st → MorningsStand st [] [] [])
    × ((st : Start) (kept s : List ℕ) (days : List DayAt) (ms : List Morning) (ends : Ends) (m : Morning) → MorningsStand st kept days ms →
    LaidOut All st (length ms) (length (all_deals ms)) s ends m →
    MorningsStand st (kept ++ s) (days ++ record { from = length kept; to = length kept + length s; parts = ends } ∷ []) (ms ++ m ∷ []))

-- which lent slice is too short for n deals
abbrev pub TooShort : Short → ℕ → ℕ → ℕ → ℕ → ℕ → Type 0
TooShort Deals n cs deals keys payments = deals < n
TooShort Keys n cs deals keys payments = keys < n
TooShort Payments n cs deals keys payments = payments < 13 * (n * cs)

-- the payments stand in order at the front of their slice, and behind them it is as it was; or a slice is too short, and nothing has changed
abbrev pub DayPaid : List ℕ → List DayAt → Start → ℕ → ℕ → List ℕ → Result ℕ Short → List ℕ → Type 0
DayPaid kept days st deals keys was r s' =
    MatchResult r (λ n. (ms : List Morning) → MorningsStand st kept days ms → 1 ≤ length ms → Written was (net_payments st ms) n s')
    (λ e. (s' ≡ was) × ((ms : List Morning) → MorningsStand st kept days ms → 1 ≤ length ms → TooShort e (length (all_deals ms)) st.currencies deals keys (length was)))
