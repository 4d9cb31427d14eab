-- What a morning does to the deals that the lent bytes keep, and what it pays, by the model of the house. Assumes nothing: these are definitions.
use Rattle.std.specs.Prelude.{◌≡◌, ℕ, ◌*◌, ◌<◌, ◌≤◌, List, length, slice_index_or}
use Rattle.std.specs.List.{AllByRecursion}
use Rattle.deals.specs.Contract.{Morning}
use Rattle.deals.specs.Promise.{size}
use Rattle.deals.specs.House.{House, happens, pays_now}
use Rattle.deals.specs.Kept.{Roomy}
use Rattle.deals.specs.Payments.{Between, gone, deals_today, payments}
use Rattle.settlement.specs.Keeping.{Keeps}
use Rattle.settlement.specs.Paying.{Written}

-- the bytes keep n deals, those of a house on a morning, the new ones too
pub record KeptToday (s : List ℕ) (n : ℕ) (h : House) (m : Morning) : Type 0 where
  pub many : length (deals_today h m) ≡ n
  pub long : 16384 * n ≤ length s
  pub keeps : (c : ℕ) → c < n → Keeps s c (slice_index_or (deals_today h m) c gone)

-- a house in bounds after a morning: each deal is between two different houses, finds room, and what two pay each other is far from 2^62
pub record Bounded (h : House) (m : Morning) : Type 0 where
  pub houses : h.houses ≤ 1024
  pub currencies : h.currencies ≤ 64
  pub between : AllByRecursion (Between h.houses) (happens h m).due
  pub roomy : AllByRecursion Roomy (happens h m).held
  pub short : (k a b : ℕ) → size (pays_now (happens h m) k a b) < 4611686018427387904

-- what is then kept and paid
pub record Settled (n : ℕ) (h : House) (m : Morning) (was : List ℕ) (r : ℕ) (s' payments' : List ℕ) : Type 0 where
  pub keeps : (c : ℕ) → c < n → Keeps s' c (slice_index_or (happens h m).held c gone)
  pub paid : Written was (payments (happens h m)) r payments'

-- so it is for every house that the bytes can keep on day t
abbrev pub Settles : ℕ → ℕ → ℕ → List ℕ → List ℕ → ℕ → List ℕ → List ℕ → Type 0
Settles t n cs s was r s' payments' =
    (h : House) (m : Morning) → h.number ≡ t → h.currencies ≡ cs → KeptToday s n h m → Bounded h m → 13 * length (payments (happens h m)) ≤ length was → Settled n h m was r s' payments'
