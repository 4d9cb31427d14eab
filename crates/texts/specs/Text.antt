-- The texts of contracts: which bytes are a text of which contract, and where a text that is none first goes wrong. Assumes nothing: these are definitions.
use Rattle.std.specs.Prelude.{◌≡◌, ℕ, suc, ◌+◌, ◌-◌, ◌*◌, ◌<◌, ◌≤◌, Bool, true, ◌&&◌, ◌⊎◌, List, [], ◌∷◌, ◌++◌, length, take, ℤ, pos, negsuc, codes, nat_le, slice_index_or}
use Prim.Native.String.{String}
use Rattle.deals.specs.Contract.{Figure, fixed, rate, day, plus, minus, times, most, less, Contract, nothing, pays, turned, both, choice, either, scaled, on_day, when, by_day}

-- a language says of each list of bytes whether it belongs: the bytes of one word; those of one language and then those of another
abbrev pub Language : Type 1
Language = List ℕ → Type 0

abbrev pub exactly : String → Language
exactly s w = w ≡ codes s

infixr 30 ◌then◌
abbrev pub ◌then◌ : Language → Language → Language
◌then◌ P Q w = (a : List ℕ) × (b : List ℕ) × P a × Q b × (a ++ b ≡ w)

-- a digit is a byte from 0 to 9; the number that digits write, behind what was read before them
abbrev pub digit : ℕ → Bool
digit c = nat_le 48 c && nat_le c 57

abbrev pub digits : List ℕ → Bool
digits [] = true
digits (c ∷ w) = digit c && digits w

abbrev pub spelt : ℕ → List ℕ → ℕ
spelt n [] = n
spelt n (c ∷ w) = spelt (n * 10 + (c - 48)) w

-- a whole number without sign: at least one digit, and no leading 0
pub record Number (n : ℕ) (w : List ℕ) : Type 0 where
  pub some : 0 < length w
  pub plain : digits w ≡ true
  pub lead : slice_index_or w 0 0 ≡ 48 → length w ≡ 1
  pub worth : spelt 0 w ≡ n

-- a whole number with "-" or without; 0 has none
abbrev pub Amount : ℤ → Language
Amount (pos n) = Number n
Amount (negsuc n) = exactly "-" then Number (suc n)

-- rate k is rate k 0
abbrev pub Rate : ℕ → ℕ → Language
Rate k n w = (exactly "rate " then Number k then exactly " " then Number n) w ⊎ ((n ≡ 0) × (exactly "rate " then Number k) w)

abbrev pub FigureText : Figure → Language
FigureText (fixed a) = Amount a
FigureText (rate k n) = Rate k n
FigureText day = exactly "day"
FigureText (plus e f) = exactly "(" then FigureText e then exactly " + " then FigureText f then exactly ")"
FigureText (minus e f) = exactly "(" then FigureText e then exactly " - " then FigureText f then exactly ")"
FigureText (times e f) = exactly "(" then FigureText e then exactly " * " then FigureText f then exactly ")"
FigureText (most e f) = exactly "max(" then FigureText e then exactly ", " then FigureText f then exactly ")"
FigureText (less e f) = exactly "(" then FigureText e then exactly " < " then FigureText f then exactly ")"

abbrev pub Text : Contract → Language
Text nothing = exactly "nothing"
Text (pays k a) = exactly "pays " then Amount a then exactly " " then Number k
Text (turned x) = exactly "turned(" then Text x then exactly ")"
Text (both x y) = exactly "both(" then Text x then exactly ", " then Text y then exactly ")"
Text (choice x y) = exactly "choice(" then Text x then exactly ", " then Text y then exactly ")"
Text (either e x y) = exactly "if " then FigureText e then exactly " then " then Text x then exactly " else " then Text y
Text (scaled e x) = FigureText e then exactly " of " then Text x
Text (on_day d x) = exactly "on " then Number d then exactly ": " then Text x
Text (when e x) = exactly "when " then FigureText e then exactly ": " then Text x
Text (by_day d x) = exactly "by " then Number d then exactly ": " then Text x

-- some contract's text begins so
unfoldable pub GoesOn : List ℕ → Type 0
GoesOn s = (x : Contract) × (t : List ℕ) × Text x (s ++ t)

-- a text that is no contract's goes on up to a place, and at that byte goes on no more; just past its end, it ends too soon
pub record RefusedAt (text : List ℕ) (place : ℕ) : Type 0 where
  pub within : place ≤ length text
  pub so_far : GoesOn (take place text)
  pub no_more : place < length text → GoesOn (take (suc place) text) → ⊥
  pub none : (x : Contract) → Text x text → ⊥
