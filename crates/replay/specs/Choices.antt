-- Ways as numbers, and the choices of a day as the kept bytes say them. Assumes nothing: these are definitions.
use Rattle.std.specs.Prelude.{ℕ, zero, suc, ◌+◌, ◌-◌, ◌*◌, ◌%◌, min, Bool, false, ◌&&◌, ◌||◌, List, [], ◌∷◌, length, get_or, Some, None, Option, ◌==◌, nat_lt, slice_index_or}
use Rattle.octets.specs.Octets.{field}
use Rattle.deals.specs.Contract.{Path, pick}
use Rattle.mornings.specs.Places.{choice_at}
use Rattle.replay.specs.declared.days.DayAt.{DayAt}
use Rattle.replay.specs.declared.choices.Way.{Way}
use Rattle.replay.specs.declared.choices.ChoiceIn.{ChoiceIn}
use Rattle.replay.specs.Days.{nowhere, bytes_of}

-- a bit more, as far as 64 bits hold it
abbrev pub one_more : ℕ → ℕ → ℕ
one_more b s = (b * 2 % 18446744073709551616 + s) % 18446744073709551616

-- the steps of a way, a bit each, behind those that were read before
unfoldable pub way_bits : ℕ → List ℕ → ℕ
way_bits b [] = b
way_bits b (s ∷ rest) = way_bits (one_more b s) rest

-- a way as a number, and how long it is
unfoldable pub way_of : Path → Way
way_of p = record { bits = way_bits 0 p; len = min (length p) 18446744073709551615 }

abbrev pub stepped : Way → ℕ → Way
stepped w s = record { bits = one_more w.bits s; len = min (w.len + 1) 18446744073709551615 }

-- the choice at a place, if there is a whole one
unfoldable pub choice_in : List ℕ → ℕ → Option ChoiceIn
choice_in s at =
    pick (nat_lt (length s) (at + 5)) None
    (pick (nat_lt (length s) (choice_at s at).way_end) None
    (Some (record {
      deal = (choice_at s at).deal;
      way = record { bits = way_bits 0 (field ((choice_at s at).way_end - (at + 5)) s (at + 5)); len = (choice_at s at).way_end - (at + 5) };
      next = (choice_at s at).way_end;
    })))

-- whether it is for a part of deal c, by the way to it
abbrev pub is_for : ChoiceIn → ℕ → Way → Bool
is_for x c w = x.deal == c && (x.way.len == w.len && x.way.bits == w.bits)

-- whether one of so many choices is
unfoldable pub chosen_from : List ℕ → ℕ → ℕ → ℕ → Way → Bool
chosen_from s zero at c w = false
chosen_from s (suc n) at c w = elim (choice_in s at) [ Some x ↦ is_for x c w || chosen_from s n x.next c w | None ↦ false ]

-- the same, among the choices of day t
unfoldable pub chosen_on : List ℕ → List DayAt → ℕ → ℕ → Way → Bool
chosen_on kept days c t w =
    pick (nat_lt t (length days))
    (chosen_from (bytes_of kept (slice_index_or days t nowhere)) (get_or days t nowhere).parts.choices (get_or days t nowhere).parts.choices_at c w)
    false
