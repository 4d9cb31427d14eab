-- The choices of a day, one after the other.
use Rattle.std.proofs.Common.{◌≡◌, ℕ, zero, suc, ◌+◌, ◌-◌, ◌<◌, ◌≤◌, false, ◌||◌, List, length, Some, None, Option, refl, ap, arith}
use Rattle.replay.specs.declared.choices.Way.{Way}
use Rattle.replay.specs.declared.choices.ChoiceIn.{ChoiceIn}
use Rattle.std.proofs.lemmas.Bool.{lt-ltb, le-ltb}
use Rattle.octets.specs.Octets.{field}
use Rattle.mornings.specs.Places.{choice_at}
use Rattle.replay.specs.Choices.{way_bits, choice_in, is_for, chosen_from}
use Rattle.replay.proofs.Steps.{pred_of}

module _ (s : List ℕ) (c : ℕ) (w : Way) where
  pub chosen_zero : (n at : ℕ) → n ≡ 0 → chosen_from s n at c w ≡ false
  unfolding chosen_from
  chosen_zero n at e = rw e

  offered : (n : ℕ) (o : Option ChoiceIn) (x : ChoiceIn) → o ≡ Some x → elim o [ Some x ↦ is_for x c w || chosen_from s n x.next c w | None ↦ false ] ≡ is_for x c w || chosen_from s n x.next c w
  offered n (Some y) x e = let same : y ≡ x = cc in ap (λ z. is_for z c w || chosen_from s n z.next c w) same
  offered n None x e = absurd (let z : ◌≡◌ {A = ℕ} 0 1 = cc in omega arith)

  pub chosen_step : (n at : ℕ) (x : ChoiceIn) → 0 < n → choice_in s at ≡ Some x → chosen_from s n at c w ≡ is_for x c w || chosen_from s (n - 1) x.next c w
  unfolding chosen_from
  chosen_step zero at x p e = absurd (omega arith)
  chosen_step (suc n) at x p e = rw (pred_of n) (offered n (choice_in s at) x e)

  stopped : (n at : ℕ) (o : Option ChoiceIn) → ((x : ChoiceIn) → o ≡ Some x → ⊥) → elim o [ Some x ↦ is_for x c w || chosen_from s n x.next c w | None ↦ false ] ≡ false
  stopped n at (Some x) h = absurd (h x refl)
  stopped n at None h = refl

  pub chosen_stop : (n at : ℕ) → 0 < n → ((x : ChoiceIn) → choice_in s at ≡ Some x → ⊥) → chosen_from s n at c w ≡ false
  unfolding chosen_from
  chosen_stop zero at p e = refl
  chosen_stop (suc n) at p e = stopped n at (choice_in s at) e

-- one choice
pub choice_cut : (s : List ℕ) (at : ℕ) → length s < at + 5 → choice_in s at ≡ None
unfolding choice_in
choice_cut s at h = rw (lt-ltb (length s) (at + 5) h)

pub choice_cut_way : (s : List ℕ) (at : ℕ) → at + 5 ≤ length s → length s < (choice_at s at).way_end → choice_in s at ≡ None
unfolding choice_in
choice_cut_way s at h g = rw (le-ltb (length s) (at + 5) h, lt-ltb (length s) (choice_at s at).way_end g)

pub choice_whole : (s : List ℕ) (at : ℕ) → (choice_at s at).way_end ≤ length s →
    choice_in s at
    ≡ Some (record {
      deal = (choice_at s at).deal;
      way = record { bits = way_bits 0 (field ((choice_at s at).way_end - (at + 5)) s (at + 5)); len = (choice_at s at).way_end - (at + 5) };
      next = (choice_at s at).way_end;
    })
unfolding choice_in
choice_whole s at h = let g : at + 5 ≤ length s = omega arith in rw (le-ltb (length s) (at + 5) g, le-ltb (length s) (choice_at s at).way_end h)
