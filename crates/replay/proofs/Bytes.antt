-- The bytes of a morning among those that are kept.
use Rattle.std.proofs.Common.{◌≡◌, ℕ, ◌-◌, ◌<◌, ◌≤◌, min, List, [], ◌∷◌, length, take, drop, sym, refl, ap, ◌∙◌, ⊎_elim, arith, length-drop, Option, Some, None, MatchOption, ◌⊎◌, ◌+◌}
use Rattle.std.specs.Option.{unwrap_or}
use Rattle.std.specs.List.{slice_range}
use Rattle.std.proofs.lemmas.List.{take_all, length-take}
use Rattle.std.proofs.lemmas.Bool.{cases_lt}
use Rattle.replay.specs.declared.days.DayAt.{DayAt}
use Rattle.replay.specs.Days.{bytes_of}

no_length : (xs : List ℕ) → length xs ≡ 0 → xs ≡ []
no_length [] e = refl
no_length (x ∷ xs) e = absurd (omega arith)

pub bytes_none : (kept : List ℕ) (d : DayAt) → min d.to (length kept) ≤ d.from → bytes_of kept d ≡ []
unfolding bytes_of
bytes_none kept d h =
    let long = length-drop d.from kept in
    no_length (take (d.to - d.from) (drop d.from kept)) (simp length-take (omega arith))

pub bytes_some : (kept : List ℕ) (d : DayAt) → take (min d.to (length kept) - d.from) (drop d.from kept) ≡ bytes_of kept d
unfolding bytes_of
bytes_some kept d = ⊎_elim past within (cases_lt (length kept) d.to)
  where
    long : length (drop d.from kept) ≡ length kept - d.from
    long = length-drop d.from kept

    past : length kept < d.to → take (min d.to (length kept) - d.from) (drop d.from kept) ≡ take (d.to - d.from) (drop d.from kept)
    past h =
        let a : length (drop d.from kept) ≤ min d.to (length kept) - d.from = omega (arith, long) in
        let b : length (drop d.from kept) ≤ d.to - d.from = omega (arith, long) in
        take_all _ (drop d.from kept) a ∙ sym (take_all _ (drop d.from kept) b)

    within : d.to ≤ length kept → take (min d.to (length kept) - d.from) (drop d.from kept) ≡ take (d.to - d.from) (drop d.from kept)
    within h = ap (λ n. take n (drop d.from kept)) (omega arith)

-- as `get` hands them out
pub bytes_got : {B : Type 0} (now : B → List ℕ) (kept : List ℕ) (d : DayAt) (to : ℕ) (r : Option B) (none : B) → to ≡ min d.to (length kept) → now none ≡ [] →
    MatchOption r ((to < d.from) ⊎ (length kept < to)) (λ x. (d.from ≤ to) × (to ≤ length kept) × (now x ≡ slice_range kept d.from to) × (length (now x) + d.from ≡ to)) →
    now (unwrap_or r none) ≡ bytes_of kept d
bytes_got now kept d to (Some x) none e p h = h.2 ∙ ap (λ n. take (n - d.from) (drop d.from kept)) e ∙ bytes_some kept d
bytes_got now kept d to None none e p h = p ∙ sym (⊎_elim (λ lt. bytes_none kept d (omega arith)) (λ lt. absurd (omega arith)) h)
