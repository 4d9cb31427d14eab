-- The deals of a house in the lent bytes: which deal is kept under a number, and what its morning does. Assumes nothing: these are definitions.
use Rattle.std.specs.Prelude.{◌≡◌, ℕ, ◌+◌, ◌*◌, ◌<◌, ◌≤◌, ◌≢◌, List, length, ℤ, pos, ◌+ℤ◌, ◌-ℤ◌, slice_index_or}
use Rattle.std.specs.Int.{int_wrap, w64}
use Rattle.deals.specs.Residual.{Today, come_to}
use Rattle.deals.specs.House.{Held, held_step, owes_step}
use Rattle.deals.specs.Payments.{adds}
use Rattle.residual.specs.Deal.{Holds}
use Rattle.settlement.specs.Directory.{entry_of, part_of}

-- the lent bytes keep a deal under its number: between whom it is, and what is left of it
pub record Keeps (s : List ℕ) (c : ℕ) (h : Held) : Type 0 where
  pub holder : (entry_of s c).holder ≡ h.holder
  pub other : (entry_of s c).other ≡ h.other
  pub left : Holds (part_of s c) (entry_of s c).kept h.entries h.slots

-- there is room for what is left of a deal after a day
pub record RoomyAfter (n : Today) (h : Held) : Type 0 where
  pub rows : length (held_step n h).slots ≤ 96
  pub entries : length (held_step n h).entries ≤ 255

-- all deals but one are as they were
pub record Others (c : ℕ) (s s' : List ℕ) : Type 0 where
  pub parts : (k : ℕ) → k ≢ c → 16384 * k + 16384 ≤ length s → part_of s' k ≡ part_of s k
  pub entries : (k : ℕ) → k ≢ c → 16384 * k + 16384 ≤ length s → entry_of s' k ≡ entry_of s k

-- a deal has had its morning: what is left of it is kept, and what flows to who holds it is added up, modulo 2^64
pub record Woke (n : Today) (c : ℕ) (h : Held) (due : List ℤ) (s' : List ℕ) (due' : List ℤ) : Type 0 where
  pub keeps : Keeps s' c (held_step n h)
  pub paid : (k : ℕ) → k < length due → int_wrap w64 (slice_index_or due' k (pos 0)) ≡ int_wrap w64 (slice_index_or due k (pos 0) +ℤ come_to k (owes_step n h).now)

pub record WokenDeal (t c : ℕ) (s : List ℕ) (due : List ℤ) (s' : List ℕ) (due' : List ℤ) : Type 0 where
  pub means : (n : Today) (h : Held) → n.number ≡ t → RoomyAfter n h → Keeps s c h → Woke n c h due s' due'
  pub others : Others c s s'

-- what has come together for the higher house of a pair, less what has for the lower one
abbrev pub net_of : List ℤ → List ℤ → ℕ → ℤ
net_of gets gives k = slice_index_or gets k (pos 0) -ℤ slice_index_or gives k (pos 0)

-- the same, with what the lower of the two has to pay the other added up
pub record NettedOne (n : Today) (c : ℕ) (h : Held) (gets gives : List ℤ) (s' : List ℕ) (gets' gives' : List ℤ) : Type 0 where
  pub keeps : Keeps s' c (held_step n h)
  pub paid : (k : ℕ) → k < length gets → k < length gives → int_wrap w64 (net_of gets' gives' k) ≡ int_wrap w64 (net_of gets gives k +ℤ adds (owes_step n h) k)

pub record Netted (t c : ℕ) (s : List ℕ) (gets gives : List ℤ) (s' : List ℕ) (gets' gives' : List ℤ) : Type 0 where
  pub means : (n : Today) (h : Held) → n.number ≡ t → RoomyAfter n h → h.holder ≢ h.other → 16384 * c + 16384 ≤ length s → Keeps s c h → NettedOne n c h gets gives s' gets' gives'
  pub others : Others c s s'
