-- How many pairs have a deal. Assumes nothing: these are definitions.
use Rattle.std.specs.Prelude.{◌≡◌, ℕ, ◌+◌, ◌*◌, ◌<◌, ◌≤◌, Bool, false, List, [], ◌∷◌, ◌++◌, map, length, slice_index_or}
use Rattle.std.specs.List.{AllByRecursion}
use Rattle.deals.specs.Contract.{Deal, nothing, larger}
use Rattle.deals.specs.Lines.{pair, among, different, deal_pair, pair_count}
use Rattle.deals.specs.Sleep.{smaller}
use Rattle.texts.specs.declared.stages.Stage.TheVariants.{Thin}
use Rattle.mornings.specs.declared.Start.{Start}
use Rattle.mornings.specs.Verdict as verdict
use Rattle.mornings.specs.Verdict.{Row}
use Rattle.mornings.specs.Judgement.{DealRead}
use Rattle.settlement.specs.Directory.{entry_of}

-- the table has a place for each two houses, and true at those of the pairs that were counted
pub record Counted (seen : List Bool) (pairs : List ℕ) (count : ℕ) : Type 0 where
  pub long : length seen ≡ 1048576
  pub marks : (a b : ℕ) → a < 1024 → b < 1024 → slice_index_or seen (a * 1024 + b) false ≡ among (pair a b) pairs
  pub count_is : count ≡ different pairs

-- one pair more
abbrev pub CountedPair : ℕ → ℕ → List Bool → ℕ → List Bool → ℕ → Type 0
CountedPair holder other seen count seen' r =
    (pairs : List ℕ) → Counted seen pairs count → holder < 1024 → other < 1024 → length pairs < 4294967296 → Counted seen' (pairs ++ pair (smaller holder other) (larger holder other) ∷ []) r

-- a deal's houses are those of the lent bytes
pub record EntryStands (s : List ℕ) (c : ℕ) (d : Deal) : Type 0 where
  pub holder : (entry_of s c).holder ≡ d.holder
  pub other : (entry_of s c).other ≡ d.other

-- between houses that there can be
abbrev pub Inside : Deal → Type 0
Inside d = (d.holder < 1024) × (d.other < 1024)

abbrev pub nobodys : Deal
nobodys = record { holder = 0; other = 0; contract = nothing; from = 0 }

-- the pairs of the first deals that are kept
abbrev pub CountedKept : List ℕ → ℕ → List Bool → ℕ → List Bool → Type 0
CountedKept s n seen r seen' =
    (dd : List Deal) → length dd ≡ n → n ≤ 65536 → AllByRecursion Inside dd → ((c : ℕ) → c < n → EntryStands s c (slice_index_or dd c nobodys)) → Counted seen [] 0 → Counted seen' (map deal_pair dd) r

-- and those of a morning's deals besides
abbrev pub CountedNew : List ℕ → ℕ → List Bool → ℕ → ℕ → List Bool → Type 0
CountedNew bytes n seen count r seen' =
    (st : Start) (day first : ℕ) (dd : List Deal) (j : ℕ) (pairs : List ℕ) → Row n (DealRead Thin st day) first bytes 2 (verdict.taken dd j) → AllByRecursion Inside dd → length pairs + n ≤ 131072 →
    Counted seen pairs count → Counted seen' (pairs ++ map deal_pair dd) r

-- so these deals stand in the lent bytes, and behind them those of the morning
pub record PairsStand (s : List ℕ) (first : ℕ) (bytes : List ℕ) (new : ℕ) (dd : List Deal) : Type 0 where
  pub old : List Deal
  pub later : List Deal
  pub parts : dd ≡ old ++ later
  pub many : length old ≡ first
  pub inside : AllByRecursion Inside dd
  pub kept : (c : ℕ) → c < first → EntryStands s c (slice_index_or old c nobodys)
  pub start : Start
  pub day : ℕ
  pub to : ℕ
  pub come : Row new (DealRead Thin start day) first bytes 2 (verdict.taken later to)

-- all of them
abbrev pub CountedAll : List ℕ → ℕ → List ℕ → ℕ → ℕ → Type 0
CountedAll s first bytes new r = (dd : List Deal) → length dd ≤ 65536 → PairsStand s first bytes new dd → r ≡ pair_count dd
