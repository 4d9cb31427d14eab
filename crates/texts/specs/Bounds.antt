-- Which texts are taken, and why and where others are refused: where the numbers of a text stand, limits, ranges. Assumes nothing: these are definitions.
use Rattle.std.specs.Prelude.{◌≡◌, ℕ, ◌+◌, ◌*◌, ◌<◌, ◌≤◌, ◌⊎◌, List, [], ◌∷◌, ◌++◌, length}
use Rattle.deals.specs.Contract.{Figure, fixed, rate, day, plus, minus, times, most, less, Contract, nothing, pays, turned, both, choice, either, scaled, on_day, when, by_day}
use Rattle.deals.specs.Promise.{size, limit, moves, marks, deep, ContractFits}
use Rattle.texts.specs.Text.{Language, exactly, Number, Amount, Text, RefusedAt}
use Rattle.texts.specs.Written.{written}
use Rattle.texts.specs.declared.reading.TextRefusal.{TextRefusal}
use Rattle.texts.specs.declared.reading.TextRefusal.TheVariants.{NoContract, Limit}

-- a number in a text that has a limit: where it stands, what it must be below, and what it is
pub record Numeral : Type 0 where
  pub place : ℕ
  pub limit : ℕ
  pub value : ℕ

-- a language that also says which numbers with limits stand in the bytes, in their order
abbrev pub Numbered : Type 1
Numbered = List ℕ → List Numeral → Type 0

abbrev pub shifted : ℕ → List Numeral → List Numeral
shifted a [] = []
shifted a (n ∷ ns) = record { place = a + n.place; limit = n.limit; value = n.value } ∷ shifted a ns

-- none at all; one number with its limit; those of one language and then those of another, which stand behind the bytes of the first
abbrev pub plain : Language → Numbered
plain L w ns = L w × (ns ≡ [])

abbrev pub numeral : ℕ → ℕ → Numbered
numeral limit n w ns = Number n w × (ns ≡ record { place = 0; limit = limit; value = n } ∷ [])

infixr 30 ◌next◌
abbrev pub ◌next◌ : Numbered → Numbered → Numbered
◌next◌ P Q w ns = (a : List ℕ) × (b : List ℕ) × (ls : List Numeral) × (ms : List Numeral) × P a ls × Q b ms × (a ++ b ≡ w) × (ls ++ shifted (length a) ms ≡ ns)

-- the numbers of a figure and of a contract, with rs rates and cs currencies: k of a rate, n days before, k of a currency, and days
abbrev pub RateNumerals : ℕ → ℕ → ℕ → Numbered
RateNumerals rs k n w ns =
    (plain (exactly "rate ") next numeral rs k next plain (exactly " ") next numeral 4097 n) w ns ⊎ ((n ≡ 0) × (plain (exactly "rate ") next numeral rs k) w ns)

abbrev pub FigureNumerals : ℕ → Figure → Numbered
FigureNumerals rs (fixed a) = plain (Amount a)
FigureNumerals rs (rate k n) = RateNumerals rs k n
FigureNumerals rs day = plain (exactly "day")
FigureNumerals rs (plus e f) = plain (exactly "(") next FigureNumerals rs e next plain (exactly " + ") next FigureNumerals rs f next plain (exactly ")")
FigureNumerals rs (minus e f) = plain (exactly "(") next FigureNumerals rs e next plain (exactly " - ") next FigureNumerals rs f next plain (exactly ")")
FigureNumerals rs (times e f) = plain (exactly "(") next FigureNumerals rs e next plain (exactly " * ") next FigureNumerals rs f next plain (exactly ")")
FigureNumerals rs (most e f) = plain (exactly "max(") next FigureNumerals rs e next plain (exactly ", ") next FigureNumerals rs f next plain (exactly ")")
FigureNumerals rs (less e f) = plain (exactly "(") next FigureNumerals rs e next plain (exactly " < ") next FigureNumerals rs f next plain (exactly ")")

abbrev pub ContractNumerals : ℕ → ℕ → Contract → Numbered
ContractNumerals rs cs nothing = plain (exactly "nothing")
ContractNumerals rs cs (pays k a) = plain (exactly "pays ") next plain (Amount a) next plain (exactly " ") next numeral cs k
ContractNumerals rs cs (turned x) = plain (exactly "turned(") next ContractNumerals rs cs x next plain (exactly ")")
ContractNumerals rs cs (both x y) = plain (exactly "both(") next ContractNumerals rs cs x next plain (exactly ", ") next ContractNumerals rs cs y next plain (exactly ")")
ContractNumerals rs cs (choice x y) = plain (exactly "choice(") next ContractNumerals rs cs x next plain (exactly ", ") next ContractNumerals rs cs y next plain (exactly ")")
ContractNumerals rs cs (either e x y) =
    plain (exactly "if ") next FigureNumerals rs e next plain (exactly " then ") next ContractNumerals rs cs x next plain (exactly " else ") next ContractNumerals rs cs y
ContractNumerals rs cs (scaled e x) = FigureNumerals rs e next plain (exactly " of ") next ContractNumerals rs cs x
ContractNumerals rs cs (on_day d x) = plain (exactly "on ") next numeral 65536 d next plain (exactly ": ") next ContractNumerals rs cs x
ContractNumerals rs cs (when e x) = plain (exactly "when ") next FigureNumerals rs e next plain (exactly ": ") next ContractNumerals rs cs x
ContractNumerals rs cs (by_day d x) = plain (exactly "by ") next numeral 65536 d next plain (exactly ": ") next ContractNumerals rs cs x

-- all numbers are below their limits; the first that is not stands at a place
unfoldable pub InRange : List Numeral → Type 0
InRange [] = Unit {0}
InRange (n ∷ ns) = (n.value < n.limit) × InRange ns

unfoldable pub FirstOut : List Numeral → ℕ → Type 0
FirstOut [] p = ⊥
FirstOut (n ∷ ns) p = ((n.limit ≤ n.value) × (p ≡ n.place)) ⊎ ((n.value < n.limit) × FirstOut ns p)

-- the largest of a figure and of each of its parts is below 2^32; what a contract and each of its parts moves is below 2^40
unfoldable pub FigureWithin : Figure → Type 0
FigureWithin (fixed a) = size a < 4294967296
FigureWithin (rate k n) = Unit {0}
FigureWithin day = Unit {0}
FigureWithin (plus e f) = FigureWithin e × FigureWithin f × (limit (plus e f) < 4294967296)
FigureWithin (minus e f) = FigureWithin e × FigureWithin f × (limit (minus e f) < 4294967296)
FigureWithin (times e f) = FigureWithin e × FigureWithin f × (limit (times e f) < 4294967296)
FigureWithin (most e f) = FigureWithin e × FigureWithin f × (limit (most e f) < 4294967296)
FigureWithin (less e f) = FigureWithin e × FigureWithin f

unfoldable pub PartsWithin : Contract → Type 0
PartsWithin nothing = Unit {0}
PartsWithin (pays k a) = size a < 1099511627776
PartsWithin (turned x) = PartsWithin x
PartsWithin (both x y) = PartsWithin x × PartsWithin y × (moves (both x y) < 1099511627776)
PartsWithin (choice x y) = PartsWithin x × PartsWithin y × (moves (choice x y) < 1099511627776)
PartsWithin (either e x y) = FigureWithin e × PartsWithin x × PartsWithin y × (moves (either e x y) < 1099511627776)
PartsWithin (scaled e x) = FigureWithin e × PartsWithin x × (moves (scaled e x) < 1099511627776)
PartsWithin (on_day d x) = PartsWithin x
PartsWithin (when e x) = FigureWithin e × PartsWithin x
PartsWithin (by_day d x) = PartsWithin x

-- at most 256 marks, a choice or a by at most 64 deep, and no limit passed
pub record IsWithinLimits (x : Contract) : Type 0 where
  pub few : marks x ≤ 256
  pub flat : deep x ≤ 65
  pub small : PartsWithin x

-- a text that is taken, as one contract in bounds, with rs rates and cs currencies
pub record TextTaken (rs cs : ℕ) (text : List ℕ) (x : Contract) : Type 0 where
  pub short : length text ≤ 8192
  pub text_of : Text x text
  pub fits : ContractFits rs cs x

-- a text that is refused, by the number of the refusal and its place in the text: too long; no contract's; past a limit; or with a number out of range
pub data TextRefused (rs cs : ℕ) (text : List ℕ) : ℕ → ℕ → Type 0 where
  too_long : 8192 < length text → TextRefused rs cs text 2 0
  no_contract : {p : ℕ} → length text ≤ 8192 → RefusedAt text p → TextRefused rs cs text 1 p
  past_limits : (x : Contract) → length text ≤ 8192 → Text x text → (IsWithinLimits x → ⊥) → TextRefused rs cs text 2 0
  out_of_range : {p : ℕ} (x : Contract) (ns : List Numeral) →
      length text ≤ 8192 → Text x text → IsWithinLimits x → ContractNumerals rs cs x text ns → FirstOut ns p → TextRefused rs cs text 2 p

-- the number and the place of each refusal of the reader
abbrev pub refusal_number : TextRefusal → ℕ
refusal_number (NoContract p) = 1
refusal_number (Limit p) = 2

abbrev pub refusal_place : TextRefusal → ℕ
refusal_place (NoContract p) = p
refusal_place (Limit p) = p

-- what a part of some bytes is refused for: the place is that in all of them
abbrev pub PartRefused : ℕ → ℕ → List ℕ → ℕ → TextRefusal → Type 0
PartRefused rs cs text from e = (p : ℕ) × TextRefused rs cs text (refusal_number e) p × (refusal_place e ≡ from + p)

-- AS LAWS. A text gets one verdict at most: it is taken as one contract, or refused with one number at one place, and not both
abbrev pub OneVerdict : Type 0
OneVerdict =
    ((rs cs : ℕ) (text : List ℕ) (x y : Contract) → TextTaken rs cs text x → TextTaken rs cs text y → y ≡ x)
    × ((rs cs : ℕ) (text : List ℕ) (n m p q : ℕ) → TextRefused rs cs text n p → TextRefused rs cs text m q → (n ≡ m) × (p ≡ q))
    × ((rs cs : ℕ) (text : List ℕ) (x : Contract) (n p : ℕ) → TextTaken rs cs text x → TextRefused rs cs text n p → ⊥)

-- a contract is in bounds if it is within limits and all numbers of a text of it are in range, and only then
abbrev pub FitsByText : Type 0
FitsByText =
    (rs cs : ℕ) (x : Contract) (text : List ℕ) (ns : List Numeral) → ContractNumerals rs cs x text ns →
    (IsWithinLimits x → InRange ns → ContractFits rs cs x) × (ContractFits rs cs x → IsWithinLimits x × InRange ns)

-- every contract in bounds has a text that is taken, of at most 22 bytes a mark
abbrev pub HasTaken : Type 0
HasTaken =
    (rs cs : ℕ) (x : Contract) → rs ≤ 256 → cs ≤ 64 → ContractFits rs cs x →
    TextTaken rs cs (written x) x × (length (written x) ≤ 22 * marks x)
