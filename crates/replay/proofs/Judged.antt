-- What is read from the bytes of mornings that were taken is what they say.
use Rattle.std.proofs.Common.{◌≡◌, ℕ, zero, suc, ◌+◌, ◌-◌, ◌/◌, ◌<◌, ◌≤◌, min, ◌&&◌, ◌||◌, eqb, List, [], ◌∷◌, ◌++◌, length, get_or, take, drop, ℤ, pos, Some, sym, refl, ap, ◌∙◌, subst, arith, length-drop, length-take}
use Rattle.std.proofs.lemmas.Bool.{lt-ltb}
use Rattle.octets.specs.Octets.{word, field}
use Rattle.deals.specs.Contract.{Deal, Choice, Morning, Path, no_day, chosen, chosen_in, same_path, all_days, all_deals}
use Rattle.texts.specs.declared.stages.Stage.TheVariants.{All as Every}
use Rattle.mornings.specs.Verdict.{taken, right, goes, Row}
use Rattle.mornings.specs.Judgement.{DealRead, RateRead, StepRead, ChoiceRead}
use Rattle.mornings.specs.Places.{choice_at}
use Rattle.mornings.specs.declared.Start.{Start}
use Rattle.mornings.proofs.Handed.{handed_out}
use Rattle.replay.specs.declared.days.DayAt.{DayAt}
use Rattle.replay.specs.declared.choices.ChoiceIn.{ChoiceIn}
use Rattle.replay.specs.declared.listing.DealIn.{DealIn}
use Rattle.replay.specs.Days.{nowhere, bytes_of, signed_at, rate_on}
use Rattle.replay.specs.Choices.{way_bits, way_of, choice_in, is_for, chosen_from, chosen_on}
use Rattle.replay.specs.Listing.{DealsRun, AllRun}
use Rattle.replay.specs.Meaning.{Bits}
use Rattle.replay.specs.Adding.{DealStands}
use Rattle.replay.specs.Standing.{no_morning, MorningsStand}
use Rattle.replay.proofs.Chosen.{chosen_zero, chosen_step, choice_whole}
use Rattle.replay.proofs.InTurn.{deal_whole, deal_as}
use Rattle.replay.proofs.SameWay.{ways_same}

-- DAYS IN A ROW

pub day_of : (ms : List Morning) (t : ℕ) → get_or (all_days ms) t no_day ≡ (get_or ms t no_morning).day
unfolding all_days
day_of [] t = refl
day_of (m ∷ ms) zero = refl
day_of (m ∷ ms) (suc t) = day_of ms t

-- RATES

rate_in : (s : List ℕ) (n i j k : ℕ) (rs : List ℤ) → Row n (λ _. RateRead) 0 s i (taken rs j) → k < n → signed_at s i k ≡ get_or rs k (pos 0)
unfolding signed_at
rate_in s n i j k rs h lt =
    let handed = handed_out.1 n 0 i j k s rs (pos 0) h lt in
    let within : k < (length s - i) / 8 = omega (arith, handed.1) in
    rw (lt-ltb k ((length s - i) / 8) within) (sym handed.0)

-- CHOICES

steps_bits : (n c i j : ℕ) (s way : List ℕ) → Row n (λ _. StepRead) c s i (taken way j) → Bits way
steps_bits zero c i j s way e = let w : way ≡ [] = cc in subst Bits (sym w) tt
steps_bits (suc n) c i j s way (goes (right h p) (goes {a = ts} {j = to} r e)) =
    let way-is : way ≡ word 1 s i ∷ ts = cc in
    subst Bits (sym way-is) (p, steps_bits n (suc c) (i + 1) to s ts r)

choice_way : (i j : ℕ) (s : List ℕ) (x : Choice) → ChoiceRead s i (taken x j) → Bits x.at × (length x.at ≤ 64)
choice_way i j s x (goes (right h1 p1) (goes (right h2 p2) (goes {a = way} {j = to} r e))) =
    let x-is : x ≡ record { of = word 4 s i; at = way } = cc in
    let at-is : x.at ≡ way = ap (λ z. z.at) x-is in
    let bits = steps_bits (word 1 s (i + 4)) 0 (i + 4 + 1) to s way r in
    let long = way_long (word 1 s (i + 4)) 0 (i + 4 + 1) to s way r in
    (subst Bits (sym at-is) bits, omega (arith, ap length at-is, long))
  where
    way_long : (n c i j : ℕ) (s way : List ℕ) → Row n (λ _. StepRead) c s i (taken way j) → length way ≡ n
    way_long zero c i j s way e = let w : way ≡ [] = cc in ap length w
    way_long (suc n) c i j s way (goes (right h p) (goes {a = ts} {j = to} r e)) =
        let way-is : way ≡ word 1 s i ∷ ts = cc in
        ap length way-is ∙ ap suc (way_long n (suc c) (i + 1) to s ts r)

-- a choice is for a part if the way to it is its way
one_choice : (s : List ℕ) (i j c : ℕ) (p : Path) (x : Choice) → Bits p → ChoiceRead s i (taken x j) →
    (y : ChoiceIn) × (choice_in s i ≡ Some y) × (y.next ≡ j) × (is_for y c (way_of p) ≡ (eqb x.of c && same_path x.at p))
unfolding way_of
one_choice s i j c p x h r =
    let is = handed_out.2 i j s x r in
    let fits = choice_way i j s x r in
    let n = (choice_at s i).way_end - (i + 5) in
    let inside : n ≤ length (drop (i + 5) s) = omega (arith, is.ends, is.within, is.in_order, length-drop (i + 5) s) in
    let long : n ≡ length x.at = omega (arith, ap length is.way, length-take n (drop (i + 5) s)) in
    let y : ChoiceIn = record { deal = (choice_at s i).deal; way = record { bits = way_bits 0 (field n s (i + 5)); len = n }; next = (choice_at s i).way_end } in
    let same : is_for y c (way_of p) ≡ (eqb x.of c && (eqb (length x.at) (min (length p) 18446744073709551615) && eqb (way_bits 0 x.at) (way_bits 0 p))) =
    (λ k. eqb (is.deal k) c && (eqb (long k) (min (length p) 18446744073709551615) && eqb (way_bits 0 (is.way k)) (way_bits 0 p))) in
    (y, choice_whole s i (omega (arith, is.ends, is.within)), is.ends, same ∙ ap (λ z. eqb x.of c && z) (ways_same x.at p fits.0 h fits.1))

chosen_row : (s : List ℕ) (c : ℕ) (p : Path) → Bits p → (n k i j : ℕ) (cs : List Choice) → Row n (λ _. ChoiceRead) k s i (taken cs j) → chosen_from s n i c (way_of p) ≡ chosen_in c p cs
unfolding chosen_in
chosen_row s c p h zero k i j cs e = let none : cs ≡ [] = cc in chosen_zero s c (way_of p) 0 i refl ∙ sym (ap (chosen_in c p) none)
chosen_row s c p h (suc n) k i j cs (goes {a = x} {j = to} r (goes {a = xs} {j = last} rest e)) =
    let all : cs ≡ x ∷ xs = cc in
    let one = one_choice s i to c p x h r in
    let same : suc n - 1 ≡ n = omega arith in
    chosen_step s c (way_of p) (suc n) i one.0 (omega arith) one.1
    ∙ (λ m. one.3 m || chosen_from s (same m) (one.2 m) c (way_of p)) ∙ ap (λ z. (eqb x.of c && same_path x.at p) || z) (chosen_row s c p h n (suc k) to last xs rest)
    ∙ sym (ap (chosen_in c p) all)

-- DEALS

-- a deal that is listed is a deal of the mornings
pub record Match (st : Start) (kept : List ℕ) (days : List DayAt) (y : DealIn) (d : Deal) : Type 0 where
  pub holder : y.at.holder ≡ d.holder
  pub other : y.at.other ≡ d.other
  pub from : y.at.day ≡ d.from
  pub stands : DealStands st kept days y d.contract

pub Matches : Start → List ℕ → List DayAt → List DealIn → List Deal → Type 0
Matches st kept days [] [] = Unit {0}
Matches st kept days [] (d ∷ dd) = ⊥
Matches st kept days (y ∷ ys) [] = ⊥
Matches st kept days (y ∷ ys) (d ∷ dd) = Match st kept days y d × Matches st kept days ys dd

module _ (st : Start) (kept : List ℕ) (days : List DayAt) where
  matches_append : (xs ys : List DealIn) (dd ee : List Deal) → Matches st kept days xs dd → Matches st kept days ys ee → Matches st kept days (xs ++ ys) (dd ++ ee)
  unfolding Matches
  matches_append [] ys [] ee h g = g
  matches_append [] ys (d ∷ dd) ee h g = absurd h
  matches_append (x ∷ xs) ys [] ee h g = absurd h
  matches_append (x ∷ xs) ys (d ∷ dd) ee h g = (h.0, matches_append xs ys dd ee h.1 g)

  pub matches_long : (xs : List DealIn) (dd : List Deal) → Matches st kept days xs dd → length xs ≡ length dd
  unfolding Matches
  matches_long [] [] h = refl
  matches_long [] (d ∷ dd) h = absurd h
  matches_long (x ∷ xs) [] h = absurd h
  matches_long (x ∷ xs) (d ∷ dd) h = ap suc (matches_long xs dd h.1)

  pub matches_at : (xs : List DealIn) (dd : List Deal) (c : ℕ) (x : DealIn) (d : Deal) → Matches st kept days xs dd → c < length xs → Match st kept days (get_or xs c x) (get_or dd c d)
  unfolding Matches
  matches_at [] dd c x d h lt = absurd (omega arith)
  matches_at (y ∷ xs) [] c x d h lt = absurd h
  matches_at (y ∷ xs) (e ∷ dd) zero x d h lt = h.0
  matches_at (y ∷ xs) (e ∷ dd) (suc c) x d h lt = matches_at xs dd c x d h.1 (omega arith)

  abbrev bytes : ℕ → List ℕ
  bytes t = bytes_of kept (get_or days t nowhere)

  -- the deals of a morning
  run_row : (t : ℕ) → t < length days → (n c i j : ℕ) (dd : List Deal) → Row n (DealRead Every st t) c (bytes t) i (taken dd j) →
      (ys : List DealIn) × DealsRun (bytes t) n i t ys × Matches st kept days ys dd
  unfolding DealsRun Matches
  run_row t lt zero c i j dd e = let none : dd ≡ [] = cc in ([], refl, subst (Matches st kept days []) (sym none) tt)
  run_row t lt (suc n) c i j dd (goes {a = d} {j = to} r (goes {a = ee} {j = last} rest e)) =
      let all : dd ≡ d ∷ ee = cc in
      let is = handed_out.0 Every st t c i to (bytes t) d r in
      let more = run_row t lt n (suc c) to last ee rest in
      let y = deal_as (bytes t) i t in
      let m : Match st kept days y d =
      record {
        holder = is.holder;
        other = is.other;
        from = is.from;
        stands = record { known = lt; ordered = is.in_order; within = omega (arith, is.ends, is.within); text = is.text };
      } in (
        y ∷ more.0,
        (y, more.0, deal_whole (bytes t) i t (omega (arith, is.ends, is.within)), subst (λ z. DealsRun (bytes t) n z t more.0) (sym is.ends) more.1, refl),
        subst (Matches st kept days (y ∷ more.0)) (sym all) (m, more.2),
      )

  -- those of all mornings from day t on
  run_all : (rest : List Morning) (t : ℕ) →
      ((k : ℕ) → k < length rest →
      (t + k < length days) × (c : ℕ) × (j : ℕ) × Row (get_or days (t + k) nowhere).parts.deals (DealRead Every st (t + k)) c (bytes (t + k)) 2 (taken (get_or rest k no_morning).deals j)) →
      (xs : List DealIn) × AllRun kept days t (length rest) xs × Matches st kept days xs (all_deals rest)
  unfolding AllRun all_deals Matches
  run_all [] t h = ([], refl, tt)
  run_all (m ∷ rest) t h =
      let here : t + 0 ≡ t = omega arith in
      let first = h 0 (omega arith) in
      let lt : t < length days = omega (arith, first.0) in
      let own = run_row t lt (get_or days t nowhere).parts.deals first.1 2 first.2 m.deals
      (subst (λ z. Row (get_or days z nowhere).parts.deals (DealRead Every st z) first.1 (bytes z) 2 (taken m.deals first.2)) here first.3) in
      let more = run_all rest (suc t) (λ k l. later k (h (suc k) (omega arith))) in
      (own.0 ++ more.0, (own.0, more.0, own.1, more.1, refl), matches_append own.0 more.0 m.deals (all_deals rest) own.2 more.2)
    where
      later : (k : ℕ) →
          (t + suc k < length days) × (c : ℕ) × (j : ℕ) × Row (get_or days (t + suc k) nowhere).parts.deals (DealRead Every st (t + suc k)) c (bytes (t + suc k)) 2 (taken (get_or rest k no_morning).deals j) →
          (suc t + k < length days) × (c : ℕ) × (j : ℕ) × Row (get_or days (suc t + k) nowhere).parts.deals (DealRead Every st (suc t + k)) c (bytes (suc t + k)) 2 (taken (get_or rest k no_morning).deals j)
      later k g =
          let same : t + suc k ≡ suc t + k = omega arith in
          subst (λ z. (z < length days) × (c : ℕ) × (j : ℕ) × Row (get_or days z nowhere).parts.deals (DealRead Every st z) c (bytes z) 2 (taken (get_or rest k no_morning).deals j)) same g

  module _ (ms : List Morning) (stand : MorningsStand st kept days ms) where
    pub all_listed : (xs : List DealIn) × AllRun kept days 0 (length days) xs × Matches st kept days xs (all_deals ms)
    all_listed =
        let all = run_all ms 0 (λ k l.
        let same : k ≡ 0 + k = omega arith in
        let laid = stand.judged k l in
        subst (λ z. (z < length days) × (c : ℕ) × (j : ℕ) × Row (get_or days z nowhere).parts.deals (DealRead Every st z) c (bytes z) 2 (taken (get_or ms k no_morning).deals j)) same
        (omega (arith, stand.many), length (all_deals (take k ms)), (get_or days k nowhere).parts.rates_at, laid.deals)) in
        (all.0, subst (λ n. AllRun kept days 0 n all.0) (sym stand.many) all.1, all.2)

    pub rates_stand : (u k : ℕ) → u < length ms → k < st.rates → rate_on kept days u k ≡ get_or (get_or (all_days ms) u no_day).rates k (pos 0)
    unfolding rate_on
    rates_stand u k lt l =
        let laid = stand.judged u lt in
        let known : u < length days = omega (arith, stand.many) in
        rw (lt-ltb u (length days) known) (rate_in (bytes u) st.rates (get_or days u nowhere).parts.rates_at laid.rates.0 k (get_or ms u no_morning).day.rates laid.rates.1 l
        ∙ ap (λ z. get_or z.rates k (pos 0)) (sym (day_of ms u)))

    pub chosen_stand : (c t : ℕ) (p : Path) → t < length ms → Bits p → chosen_on kept days c t (way_of p) ≡ chosen (all_days ms) t c p
    unfolding chosen_on chosen
    chosen_stand c t p lt h =
        let laid = stand.judged t lt in
        let known : t < length days = omega (arith, stand.many) in
        rw (lt-ltb t (length days) known) (chosen_row (bytes t) c p h (get_or days t nowhere).parts.choices 0 (get_or days t nowhere).parts.choices_at laid.choices.0 (get_or ms t no_morning).day.choices laid.choices.1
        ∙ ap (λ z. chosen_in c p z.choices) (sym (day_of ms t)))
