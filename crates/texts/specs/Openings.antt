-- How contracts are read. Assumes nothing: these are definitions.
use Rattle.std.specs.Prelude.{◌≡◌, ℕ, List, ◌≢◌}
use Rattle.deals.specs.Contract.{Contract}
use Rattle.texts.specs.Text.{Language, exactly, ◌then◌, Number, Text}
use Rattle.texts.specs.Reading.{Word}
use Rattle.texts.specs.declared.contracts.Opening.{Opening}
use Rattle.texts.specs.declared.contracts.Opening.TheVariants.{Nothing, Pays, Turned, Both, Choice, If, On, When, By, Figure}

-- a pair behind a word
abbrev pub PairText : List ℕ → Contract × Contract → Language
PairText name p = Word name tt then Text p.0 then exactly ", " then Text p.1 then exactly ")"

-- a day, and what stands behind it
abbrev pub DayColon : ℕ → Language
DayColon d = Number d then exactly ": "

-- the first byte of a contract, and the second where the first doesn't tell
abbrev pub Opens : Opening → ℕ → ℕ → Type 0
Opens Nothing b c = b ≡ 110
Opens Pays b c = b ≡ 112
Opens Turned b c = b ≡ 116
Opens Both b c = (b ≡ 98) × (c ≢ 121)
Opens Choice b c = b ≡ 99
Opens If b c = b ≡ 105
Opens On b c = b ≡ 111
Opens When b c = b ≡ 119
Opens By b c = (b ≡ 98) × (c ≡ 121)
Opens Figure b c = (b ≢ 110) × (b ≢ 112) × (b ≢ 116) × (b ≢ 98) × (b ≢ 99) × (b ≢ 105) × (b ≢ 111) × (b ≢ 119)
