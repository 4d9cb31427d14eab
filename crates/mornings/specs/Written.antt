-- How starts and mornings are written in bytes. Assumes nothing: these are definitions.
use Rattle.std.specs.Prelude.{◌≡◌, ℕ, ◌+◌, ◌≤◌, List, [], ◌∷◌, ◌++◌, length, ℤ}
use Rattle.std.specs.Int.{w64}
use Rattle.std.proofs.Common.{of_z}
use Rattle.std.specs.List.{flat_map}
use Rattle.deals.specs.Contract.{Deal, Choice, Morning}
use Rattle.octets.specs.Octets.{octets_of, put}
use Rattle.texts.specs.Text.{Text}
use Rattle.mornings.specs.declared.Start.{Start}

-- a start in bounds
pub record StartFits (st : Start) : Type 0 where
  pub houses : st.houses ≤ 1024
  pub rates : st.rates ≤ 256
  pub currencies : st.currencies ≤ 64

-- some bytes written at a place, with all others as they were, and the place behind them
pub record Wrote (before : List ℕ) (at : ℕ) (bytes : List ℕ) (after : List ℕ) (to : ℕ) : Type 0 where
  pub put_there : after ≡ put before at bytes
  pub behind : to ≡ at + length bytes

-- two numbers of two bytes and one of one
abbrev pub head_octets : ℕ → ℕ → ℕ → List ℕ
head_octets a b c = octets_of 2 a ++ (octets_of 2 b ++ octets_of 1 c)

-- a start in bytes
abbrev pub start_bytes : Start → List ℕ
start_bytes st = head_octets st.houses st.rates st.currencies

-- a deal with a text, a rate, and a choice with a way
abbrev pub deal_octets : ℕ → ℕ → ℕ → List ℕ → List ℕ
deal_octets holder other day text = octets_of 2 holder ++ (octets_of 2 other ++ (octets_of 4 day ++ (octets_of 2 (length text) ++ text)))

abbrev pub rate_octets : ℤ → List ℕ
rate_octets a = octets_of 8 (of_z w64 a)

abbrev pub choice_octets : ℕ → List ℕ → List ℕ
choice_octets deal way = octets_of 4 deal ++ (octets_of 1 (length way) ++ way)

-- a deal, with any text of its contract
abbrev pub DealWritten : Deal → List ℕ → Type 0
DealWritten d bs = (text : List ℕ) × Text d.contract text × (length text ≤ 8192) × (bs ≡ deal_octets d.holder d.other d.from text)

abbrev pub RateWritten : ℤ → List ℕ → Type 0
RateWritten a bs = bs ≡ rate_octets a

abbrev pub ChoiceWritten : Choice → List ℕ → Type 0
ChoiceWritten c bs = bs ≡ choice_octets c.of c.at

-- some parts, each with its own piece of bytes
pub data Each {A : Type 0} (W : A → List ℕ → Type 0) : List A → List (List ℕ) → Type 0 where
  none : Each W [] []
  more : {a : A} {rest : List A} {bs : List ℕ} {pieces : List (List ℕ)} → W a bs → Each W rest pieces → Each W (a ∷ rest) (bs ∷ pieces)

-- the pieces of a morning: how many deals, the deals, the rates, how many choices, the choices
pub record PiecesOf (m : Morning) (pieces : List (List ℕ)) : Type 0 where
  pub deal_pieces : List (List ℕ)
  pub rate_pieces : List (List ℕ)
  pub choice_pieces : List (List ℕ)
  pub deals : Each DealWritten m.deals deal_pieces
  pub rates : Each RateWritten m.day.rates rate_pieces
  pub choices : Each ChoiceWritten m.day.choices choice_pieces
  pub in_order : pieces ≡ octets_of 2 (length m.deals) ∷ (deal_pieces ++ (rate_pieces ++ (octets_of 2 (length m.day.choices) ∷ choice_pieces)))

-- pieces one behind the other
abbrev pub in_a_row : List (List ℕ) → List ℕ
in_a_row pieces = flat_map (λ bs. bs) pieces

-- bytes that a morning may be written in
abbrev pub MorningWritten : Morning → List ℕ → Type 0
MorningWritten m s = (pieces : List (List ℕ)) × PiecesOf m pieces × (s ≡ in_a_row pieces)

-- pieces that were written one after the other, each behind the one before
pub data InTurn : List (List ℕ) → List ℕ → ℕ → List ℕ → ℕ → Type 0 where
  nothing_yet : {s : List ℕ} {i : ℕ} → InTurn [] s i s i
  and_then : {piece : List ℕ} {pieces : List (List ℕ)} {s t u : List ℕ} {i j k : ℕ} → Wrote s i piece t j → InTurn pieces t j u k → InTurn (piece ∷ pieces) s i u k
