-- The parts of a morning by value, read at their places. Assumes nothing: these are definitions.
use Rattle.std.specs.Prelude.{◌≡◌, ℕ, ◌+◌, ◌-◌, ◌≤◌, true, List, length, ℤ}
use Rattle.std.specs.Int.{w64}
use Rattle.std.proofs.Common.{to_z}
use Rattle.deals.specs.Contract.{Deal, Choice}
use Rattle.octets.specs.Octets.{word, field}
use Rattle.texts.specs.Bounds.{TextTaken}
use Rattle.texts.specs.Stages.{built_at}
use Rattle.texts.specs.declared.stages.Stage.{Stage}
use Rattle.mornings.specs.declared.Start.{Start}
use Rattle.mornings.specs.declared.places.DealAt.{DealAt}
use Rattle.mornings.specs.declared.places.ChoiceAt.{ChoiceAt}

-- what the ten bytes before the text of a deal say
abbrev pub deal_at : List ℕ → ℕ → DealAt
deal_at s i = record { holder = word 2 s i; other = word 2 s (i + 2); day = word 4 s (i + 4); text_at = i + 10; text_end = i + 10 + word 2 s (i + 8) }

-- it is this deal, its contract stands in its text, and the next deal stands behind that
pub record IsDeal (stage : Stage) (st : Start) (s : List ℕ) (r : DealAt) (d : Deal) (next : ℕ) : Type 0 where
  pub holder : r.holder ≡ d.holder
  pub other : r.other ≡ d.other
  pub from : r.day ≡ d.from
  pub in_order : r.text_at ≤ r.text_end
  pub text : TextTaken st.rates st.currencies (field (r.text_end - r.text_at) s r.text_at) d.contract
  pub built : built_at stage d.contract ≡ true
  pub ends : r.text_end ≡ next
  pub within : next ≤ length s

-- the rate in eight bytes
abbrev pub rate_at : List ℕ → ℕ → ℤ
rate_at s i = to_z w64 (word 8 s i)

-- what the five bytes before the way of a choice say
abbrev pub choice_at : List ℕ → ℕ → ChoiceAt
choice_at s i = record { deal = word 4 s i; way_at = i + 5; way_end = i + 5 + word 1 s (i + 4) }

pub record IsChoice (s : List ℕ) (r : ChoiceAt) (c : Choice) (next : ℕ) : Type 0 where
  pub deal : r.deal ≡ c.of
  pub in_order : r.way_at ≤ r.way_end
  pub way : field (r.way_end - r.way_at) s r.way_at ≡ c.at
  pub ends : r.way_end ≡ next
  pub within : next ≤ length s
