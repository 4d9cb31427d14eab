-- What is true of numbers in bytes, whatever their width. Assumes nothing.
use Rattle.std.specs.Prelude.{◌≡◌, ℕ, ◌+◌, ◌^◌, ◌<◌, ◌≤◌, ◌⊎◌, List, length, slice_index}
use Rattle.octets.specs.Octets.{word, put_word}

-- a number of n bytes written at i, where there is room: as many bytes as before, it is read again, and what lies apart is as it was
pub record WriteStands (n : ℕ) (s : List ℕ) (i v : ℕ) : Type 0 where
  pub long : length (put_word n s i v) ≡ length s
  pub same : v < 256 ^ n → word n (put_word n s i v) i ≡ v
  pub apart : (m j : ℕ) → j + m ≤ length s → (j + m ≤ i) ⊎ (i + n ≤ j) → word m (put_word n s i v) j ≡ word m s j

abbrev pub WritesStand : Type 0
WritesStand = (n : ℕ) (s : List ℕ) (i v : ℕ) → i + n ≤ length s → WriteStands n s i v

-- what is read of n bytes is below 256^n
abbrev pub ReadsBelow : Type 0
ReadsBelow = (n : ℕ) (s : List ℕ) (i : ℕ) → i + n ≤ length s → ((k : ℕ) → slice_index s k < 256) → word n s i < 256 ^ n
