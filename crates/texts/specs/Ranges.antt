-- What is noted of the numbers of a text while it is read. Assumes nothing: these are definitions.
use Rattle.std.specs.Prelude.{◌≡◌, ℕ, ◌≤◌, ◌⊎◌, List, [], ◌∷◌, ◌++◌, length, MatchOption}
use Rattle.std.specs.List.{between}
use Rattle.deals.specs.Contract.{Figure, Contract}
use Rattle.texts.specs.Text.{exactly, Text}
use Rattle.texts.specs.Reading.{NoDigit, Word, Took}
use Rattle.texts.specs.Figures.{Ended}
use Rattle.texts.specs.Openings.{PairText}
use Rattle.texts.specs.Nodes.{Grown, figure_nodes, nodes_of, ReadAs}
use Rattle.texts.specs.Bounds.{Numeral, Numbered, shifted, plain, numeral, ◌next◌, FigureNumerals, ContractNumerals, InRange, FirstOut}
use Rattle.texts.specs.declared.nodes.Node.{Node}
use Rattle.texts.specs.declared.ranges.Ranges.{Ranges}
use Rattle.texts.specs.declared.reader.Reading.{Reading}

-- so many rates and currencies, and the first of some numbers that is out of range
pub record Counts (r : Ranges) (rs cs : ℕ) (ks : List Numeral) : Type 0 where
  pub rates_are : r.rates ≡ rs
  pub currencies_are : r.currencies ≡ cs
  pub first_is : MatchOption r.first (InRange ks) (λ p. FirstOut ks p)

-- the numbers of the bytes from one place to another were noted behind those before
pub record Noted (before after : Ranges) (P : ℕ → ℕ → Numbered) (text : List ℕ) (a b : ℕ) : Type 0 where
  pub forward : a ≤ b
  pub within : b ≤ length text
  pub notes : (rs cs : ℕ) (ks : List Numeral) → Counts before rs cs ks → (ls : List Numeral) × P rs cs (between a b text) ls × Counts after rs cs (ks ++ shifted a ls)

-- the numbers of a figure with the byte behind it, of what stands behind the k of a rate, and of a pair behind a word
abbrev pub EndedNumerals : ℕ → Figure → ℕ → ℕ → Numbered
EndedNumerals end e rs cs = FigureNumerals rs e next plain (Word (end ∷ []) tt)

abbrev pub RateEndingNumerals : ℕ → ℕ → ℕ → ℕ → Numbered
RateEndingNumerals end n rs cs w ns = (plain (Word (32 ∷ []) tt) next numeral 4097 n next plain (Word (end ∷ []) tt)) w ns ⊎ ((n ≡ 0) × plain (Word (end ∷ []) tt) w ns)

abbrev pub PairNumerals : List ℕ → Contract × Contract → ℕ → ℕ → Numbered
PairNumerals name p rs cs = plain (Word name tt) next ContractNumerals rs cs p.0 next plain (exactly ", ") next ContractNumerals rs cs p.1 next plain (exactly ")")

-- a figure with the byte behind it, a contract or a pair behind a word was read: its nodes are held and its numbers noted
abbrev pub FigureRead : ℕ → List ℕ → ℕ → Reading → Reading → ℕ → Type 0
FigureRead end text at r r' to = (e : Figure) × Took NoDigit (Ended end) text at to e × Grown r.tree r'.tree (figure_nodes e) × Noted r.ranges r'.ranges (EndedNumerals end e) text at to

abbrev pub ContractRead : List ℕ → ℕ → Reading → Reading → ℕ → Type 0
ContractRead text at r r' to = (x : Contract) × Took NoDigit Text text at to x × Grown r.tree r'.tree (nodes_of x) × Noted r.ranges r'.ranges (λ rs cs. ContractNumerals rs cs x) text at to

abbrev pub PairRead : List ℕ → Node → List ℕ → ℕ → Reading → Reading → ℕ → Type 0
PairRead name node text at r r' to =
    (p : Contract × Contract) × Took NoDigit (PairText name) text at to p × Grown r.tree r'.tree (node ∷ (nodes_of p.0 ++ nodes_of p.1)) × Noted r.ranges r'.ranges (PairNumerals name p) text at to

-- a whole text was read: as one contract, and no other, of which the nodes are held and the numbers noted
pub record WholeRead (text : List ℕ) (r r' : Reading) : Type 0 where
  pub contract : Contract
  pub read : ReadAs text r'.tree contract
  pub noted : Noted r.ranges r'.ranges (λ rs cs. ContractNumerals rs cs contract) text 0 (length text)
