-- The walk over the deals of a day, by words in order: the two houses of a deal, the lower first, and then its number. Assumes nothing: these are definitions.
use Rattle.std.specs.Prelude.{◌≡◌, ℕ, ◌*◌, ◌/◌, ◌%◌, ◌<◌, ◌≤◌, ◌≢◌, List, map, length, take, pos, sum_by, FitsSigned, ◌==◌, slice_index}
use Rattle.std.specs.Int.{w64}
use Rattle.std.specs.List.{AllByRecursion}
use Rattle.deals.specs.Contract.{pick}
use Rattle.deals.specs.Residual.{Today}
use Rattle.deals.specs.House.{Held, Owes, held_step, owes_step}
use Rattle.deals.specs.Payments.{pair_of, paired, grouped}
use Rattle.settlement.specs.Directory.{entry_of, part_of}
use Rattle.settlement.specs.Keeping.{Keeps, RoomyAfter}
use Rattle.settlement.specs.Paying.{Written}

abbrev pub pair_in : ℕ → ℕ
pair_in w = w / 65536

abbrev pub number_in : ℕ → ℕ
number_in w = w % 65536

-- how often a deal is among some words
unfoldable pub times : ℕ → List ℕ → ℕ
times c ws = sum_by (λ w. pick (number_in w == c) 1 0) ws

-- what the deals of some words come to, each on the day that it sees
unfoldable pub owing : (ℕ → Today) → (ℕ → Held) → List ℕ → List Owes
owing see hs ws = map (λ w. owes_step (see (number_in w)) (hs (number_in w))) ws

-- the bytes keep n deals, and the words are those of some of them, none twice; 64 bits give what each pair comes to in full, and there is room for the payments
pub record Ready (t n cs : ℕ) (see : ℕ → Today) (hs : ℕ → Held) (s ws : List ℕ) (room : ℕ) : Type 0 where
  pub long : 16384 * n ≤ length s
  pub keeps : (c : ℕ) → c < n → Keeps s c (hs c)
  pub days : (c : ℕ) → (see c).number ≡ t
  pub roomy : (c : ℕ) → c < n → RoomyAfter (see c) (hs c)
  pub holders : (c : ℕ) → c < n → (hs c).holder < 65536
  pub others : (c : ℕ) → c < n → (hs c).other < 65536
  pub apart : (c : ℕ) → c < n → (hs c).holder ≢ (hs c).other
  pub deals : (j : ℕ) → j < length ws → number_in (slice_index ws j) < n
  pub pairs : (j : ℕ) → j < length ws → pair_of (owes_step (see (number_in (slice_index ws j))) (hs (number_in (slice_index ws j)))) ≡ pair_in (slice_index ws j)
  pub once : (c : ℕ) → times c ws ≤ 1
  pub whole : AllByRecursion (λ l. FitsSigned w64 l.total) (paired cs 0 0 (λ k. pos 0) (owing see hs ws))
  pub fits : 13 * length (grouped cs (owing see hs ws)) ≤ room

-- the deals of the first words have had their morning, the others are as they were
pub record Walked (n : ℕ) (see : ℕ → Today) (hs : ℕ → Held) (s₀ ws : List ℕ) (i : ℕ) (s : List ℕ) : Type 0 where
  pub same_length : length s ≡ length s₀
  pub done : (c : ℕ) → c < n → 0 < times c (take i ws) → Keeps s c (held_step (see c) (hs c))
  pub parts : (c : ℕ) → c < n → times c (take i ws) ≡ 0 → part_of s c ≡ part_of s₀ c
  pub entries : (c : ℕ) → c < n → times c (take i ws) ≡ 0 → entry_of s c ≡ entry_of s₀ c

pub record AllWalked (n cs : ℕ) (see : ℕ → Today) (hs : ℕ → Held) (s ws was : List ℕ) (r : ℕ) (s' payments : List ℕ) : Type 0 where
  pub walked : Walked n see hs s ws (length ws) s'
  pub paid : Written was (grouped cs (owing see hs ws)) r payments

-- all deals of the words have had their morning, and what each pair comes to is paid
abbrev pub Walks : ℕ → ℕ → List ℕ → List ℕ → List ℕ → ℕ → List ℕ → List ℕ → Type 0
Walks t cs ws s was r s' payments =
    (n : ℕ) (see : ℕ → Today) (hs : ℕ → Held) → Ready t n cs see hs s ws (length was) → AllWalked n cs see hs s ws was r s' payments
