-- New deals come into the lent bytes. Assumes nothing: these are definitions.
use Rattle.std.specs.Prelude.{◌≡◌, ℕ, ◌+◌, ◌<◌, ◌≤◌, true, List, [], ◌∷◌, ◌++◌, length, slice_index_or}
use Rattle.std.specs.List.{AllByRecursion}
use Rattle.deals.specs.Contract.{Contract, Deal}
use Rattle.deals.specs.Promise.{thin, ContractFits}
use Rattle.deals.specs.Residual.{starts}
use Rattle.deals.specs.House.{Held, taken}
use Rattle.deals.specs.Payments.{gone}
use Rattle.texts.specs.declared.nodes.Node.{Node}
use Rattle.texts.specs.Nodes.{nodes_of}
use Rattle.texts.specs.declared.stages.Stage.TheVariants.{Thin}
use Rattle.mornings.specs.declared.Start.{Start}
use Rattle.mornings.specs.Verdict as verdict
use Rattle.mornings.specs.Verdict.{Row}
use Rattle.mornings.specs.Judgement.{DealRead}
use Rattle.settlement.specs.Keeping.{Keeps, Others}

-- a deal that is new: all of it waits for its first day
abbrev pub new_deal : Deal → Held
new_deal d = record { holder = d.holder; other = d.other; entries = []; slots = record { entry = 0; way = []; waits = starts d.from d.contract } ∷ [] }

-- a deal was written under its number, by its contract's marks; all others are as they were
pub record OpenedDeal (c holder other from : ℕ) (marks : List Node) (s s' : List ℕ) : Type 0 where
  pub keeps : (x : Contract) (rs cs : ℕ) → marks ≡ nodes_of x → ContractFits rs cs x → cs ≤ 65536 → thin x ≡ true → from < 65536 → Keeps s' c (new_deal (record { holder = holder; other = other; contract = x; from = from }))
  pub others : Others c s s'

-- the deal that stands at a place of a morning's bytes was written under its number; the place behind it
pub record OpenedNext (st : Start) (bytes : List ℕ) (c at : ℕ) (s : List ℕ) (r : ℕ) (s' : List ℕ) : Type 0 where
  pub means : (day : ℕ) (d : Deal) (j : ℕ) → st.currencies ≤ 64 → DealRead Thin st day c bytes at (verdict.taken d j) → (r ≡ j) × (d.from < 65536 → Keeps s' c (new_deal d))
  pub others : Others c s s'

-- all deals of a morning were written behind those that there were
abbrev pub OpensAll : Start → List ℕ → ℕ → ℕ → List ℕ → List ℕ → Type 0
OpensAll st bytes n first s s' =
    (day : ℕ) (dd : List Deal) (j : ℕ) (hs : List Held) → st.currencies ≤ 64 → Row n (DealRead Thin st day) first bytes 2 (verdict.taken dd j) → AllByRecursion (λ d. d.from < 65536) dd → length hs ≡ first →
    ((c : ℕ) → c < first → Keeps s c (slice_index_or hs c gone)) → (c : ℕ) → c < first + n → Keeps s' c (slice_index_or (hs ++ taken dd) c gone)
