-- The deals of the mornings taken, in a row. Assumes nothing: these are definitions.
use Rattle.std.specs.Prelude.{◌≡◌, ℕ, zero, suc, ◌+◌, ◌<◌, ◌≤◌, List, [], ◌∷◌, ◌++◌, length, get_or, take, Some, None, Option, nat_lt, slice_index_or}
use Rattle.deals.specs.Contract.{pick}
use Rattle.mornings.specs.Places.{deal_at}
use Rattle.replay.specs.declared.days.DayAt.{DayAt}
use Rattle.replay.specs.declared.listing.DealIn.{DealIn}
use Rattle.replay.specs.Days.{nowhere, bytes_of}

-- the deal at a place of a morning, if there is a whole one
unfoldable pub deal_in : List ℕ → ℕ → ℕ → Option DealIn
deal_in s at t =
    pick (nat_lt (length s) (at + 10)) None
    (pick (nat_lt (length s) (deal_at s at).text_end) None
    (Some (record { morning = t; at = deal_at s at })))

-- so many deals stand in a row from a place on
unfoldable pub DealsRun : List ℕ → ℕ → ℕ → ℕ → List DealIn → Type 0
DealsRun s zero at t xs = xs ≡ []
DealsRun s (suc n) at t xs = (d : DealIn) × (rest : List DealIn) × (deal_in s at t ≡ Some d) × DealsRun s n d.at.text_end t rest × (xs ≡ d ∷ rest)

-- those of n mornings, from morning t on
unfoldable pub AllRun : List ℕ → List DayAt → ℕ → ℕ → List DealIn → Type 0
AllRun kept days t zero xs = xs ≡ []
AllRun kept days t (suc n) xs =
    (ys : List DealIn) × (zs : List DealIn) × DealsRun (bytes_of kept (slice_index_or days t nowhere)) (get_or days t nowhere).parts.deals 2 t ys × AllRun kept days (suc t) n zs × (xs ≡ ys ++ zs)

-- deals are listed behind others, if there is room
abbrev pub Listed : List DealIn → ℕ → List DealIn → Option ℕ → List DealIn → Type 0
Listed deals count xs r deals' = elim r [ Some n ↦ (n ≡ count + length xs) × (n ≤ length deals) × (take n deals' ≡ take count deals ++ xs) | None ↦ length deals < count + length xs ]

abbrev pub MorningListed : List ℕ → ℕ → ℕ → List DealIn → ℕ → Option ℕ → List DealIn → Type 0
MorningListed s many t deals count r deals' = (xs : List DealIn) → DealsRun s many 2 t xs → count ≤ length deals → Listed deals count xs r deals'

abbrev pub AllListed : List ℕ → List DayAt → List DealIn → Option ℕ → List DealIn → Type 0
AllListed kept days deals r deals' = (xs : List DealIn) → AllRun kept days 0 (length days) xs → Listed deals 0 xs r deals'
