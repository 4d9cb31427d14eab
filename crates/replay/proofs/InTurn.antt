-- The deals of mornings, one after the other.
use Rattle.std.proofs.Common.{◌≡◌, ℕ, zero, suc, ◌+◌, ◌-◌, ◌<◌, ◌≤◌, List, [], ◌∷◌, ◌++◌, length, get_or, take, set, Some, None, Option, sym, refl, ap, ◌∙◌, subst, ⊎_elim, append_assoc, add-one, arith, length-append, Result, Ok, Err}
use Rattle.std.specs.Option.{ok_or}
use Rattle.replay.specs.declared.settle.Short.{Short}
use Rattle.replay.specs.declared.settle.Short.TheVariants.{Deals}
use Rattle.std.proofs.lemmas.Bool.{cases_lt, lt-ltb, le-ltb}
use Rattle.std.proofs.lemmas.List.{take_more_set, append-nil}
use Rattle.mornings.specs.Places.{deal_at}
use Rattle.replay.specs.declared.days.DayAt.{DayAt}
use Rattle.replay.specs.declared.listing.DealIn.{DealIn}
use Rattle.replay.specs.Days.{nowhere, bytes_of}
use Rattle.replay.specs.Listing.{deal_in, DealsRun, AllRun, Listed}
use Rattle.replay.proofs.Steps.{pred_of}

-- ONE DEAL

deal_cut : (s : List ℕ) (at t : ℕ) → length s < at + 10 → deal_in s at t ≡ None
unfolding deal_in
deal_cut s at t h = rw (lt-ltb (length s) (at + 10) h)

deal_cut_text : (s : List ℕ) (at t : ℕ) → at + 10 ≤ length s → length s < (deal_at s at).text_end → deal_in s at t ≡ None
unfolding deal_in
deal_cut_text s at t h g = rw (le-ltb (length s) (at + 10) h, lt-ltb (length s) (deal_at s at).text_end g)

pub deal_none : (s : List ℕ) (at t : ℕ) → length s < (deal_at s at).text_end → deal_in s at t ≡ None
deal_none s at t h = ⊎_elim (λ cut. deal_cut s at t cut) (λ long. deal_cut_text s at t long h) (cases_lt (length s) (at + 10))

abbrev pub deal_as : List ℕ → ℕ → ℕ → DealIn
deal_as s at t = record { morning = t; at = deal_at s at }

pub deal_whole : (s : List ℕ) (at t : ℕ) → (deal_at s at).text_end ≤ length s → deal_in s at t ≡ Some (deal_as s at t)
unfolding deal_in
deal_whole s at t h = let g : at + 10 ≤ length s = omega arith in rw (le-ltb (length s) (at + 10) g, le-ltb (length s) (deal_at s at).text_end h)

-- A MORNING

pub run_step : (s : List ℕ) (n at t : ℕ) (xs : List DealIn) → 0 < n → DealsRun s n at t xs →
    (d : DealIn) × (rest : List DealIn) × (deal_in s at t ≡ Some d) × DealsRun s (n - 1) d.at.text_end t rest × (xs ≡ d ∷ rest)
unfolding DealsRun
run_step s zero at t xs p h = absurd (omega arith)
run_step s (suc n) at t xs p h = (h.0, h.1, h.2, subst (λ m. DealsRun s m h.0.at.text_end t h.1) (sym (pred_of n)) h.3, h.4)

pub run_end : (s : List ℕ) (n at t : ℕ) (xs : List DealIn) → n ≡ 0 → DealsRun s n at t xs → xs ≡ []
unfolding DealsRun
run_end s zero at t xs e h = h
run_end s (suc n) at t xs e h = absurd (omega arith)

-- what is listed so far: some of the deals, and the others are to come
pub record Listing (s : List ℕ) (t left at : ℕ) (was : List DealIn) (from : ℕ) (xs : List DealIn) (deals : List DealIn) (count : ℕ) : Type 0 where
  pub done : List DealIn
  pub rest : List DealIn
  pub all : xs ≡ done ++ rest
  pub run : DealsRun s left at t rest
  pub many : count ≡ from + length done
  pub room : count ≤ length was
  pub front : take count deals ≡ take from was ++ done

pub same_some : {A : Type 0} (o : Option A) (d e : A) → o ≡ Some d → o ≡ Some e → d ≡ e
same_some o d e p q = cc

pub listing_more : (s : List ℕ) (t left at : ℕ) (was : List DealIn) (from : ℕ) (xs deals : List DealIn) (count : ℕ) (d : DealIn) → 0 < left → count < length deals → length deals ≡ length was →
    deal_in s at t ≡ Some d → Listing s t left at was from xs deals count → Listing s t (left - 1) d.at.text_end was from xs (set deals count d) (count + 1)
listing_more s t left at was from xs deals count d p lt long is l =
    let step = run_step s left at t l.rest p l.run in
    let same : step.0 ≡ d = same_some (deal_in s at t) step.0 d step.2 is in
    let rest : l.rest ≡ d ∷ step.1 = step.4 ∙ ap (λ z. z ∷ step.1) same in
    record {
      done = l.done ++ d ∷ [];
      rest = step.1;
      all = l.all ∙ ap (λ z. l.done ++ z) rest ∙ sym (append_assoc l.done (d ∷ []) step.1);
      run = subst (λ z. DealsRun s (left - 1) z.at.text_end t step.1) same step.3;
      many = omega (arith, length-append l.done (d ∷ []), l.many);
      room = omega arith;
      front = take_more_set deals count d lt ∙ ap (λ z. z ++ d ∷ []) l.front ∙ append_assoc (take from was) l.done (d ∷ []);
    }

pub listing_none : (s : List ℕ) (t left at : ℕ) (was : List DealIn) (from : ℕ) (xs deals : List DealIn) (count : ℕ) → 0 < left → Listing s t left at was from xs deals count →
    deal_in s at t ≡ None → ⊥
listing_none s t left at was from xs deals count p l none =
    let step = run_step s left at t l.rest p l.run in
    let some : deal_in s at t ≡ Some step.0 = step.2 in
    let clash : ◌≡◌ {A = ℕ} 0 1 = cc in
    omega arith

pub listing_full : (s : List ℕ) (t left at : ℕ) (was : List DealIn) (from : ℕ) (xs deals : List DealIn) (count : ℕ) → 0 < left → length was ≤ count → Listing s t left at was from xs deals count →
    length was < from + length xs
listing_full s t left at was from xs deals count p full l =
    let step = run_step s left at t l.rest p l.run in
    omega (arith, ap length l.all, length-append l.done l.rest, ap length step.4, l.many)

pub listing_end : (s : List ℕ) (t left at : ℕ) (was : List DealIn) (from : ℕ) (xs deals : List DealIn) (count : ℕ) → left ≡ 0 → Listing s t left at was from xs deals count →
    (count ≡ from + length xs) × (count ≤ length was) × (take count deals ≡ take from was ++ xs)
listing_end s t left at was from xs deals count e l =
    let none = run_end s left at t l.rest e l.run in
    let same : xs ≡ l.done = l.all ∙ ap (λ z. l.done ++ z) none ∙ append-nil l.done in
    (omega (arith, ap length same, l.many), l.room, l.front ∙ ap (λ z. take from was ++ z) (sym same))

pub none_listed : (deals : List DealIn) (count : ℕ) (xs : List DealIn) (r : Option ℕ) (deals' : List DealIn) → Listed deals count xs r deals' → r ≡ None → length deals < count + length xs
none_listed deals count xs r deals' h e = subst (λ z. Listed deals count xs z deals') e h

pub some_listed : (deals : List DealIn) (count : ℕ) (xs : List DealIn) (r : Option ℕ) (deals' : List DealIn) (n : ℕ) → Listed deals count xs r deals' → r ≡ Some n →
    (n ≡ count + length xs) × (n ≤ length deals) × (take n deals' ≡ take count deals ++ xs)
some_listed deals count xs r deals' n h e = subst (λ z. Listed deals count xs z deals') e h

-- what a list of deals that found no room makes of an error
pub ok_none : (o : Option ℕ) (r : Result ℕ Short) (e : Short) → r ≡ ok_or o Deals → r ≡ Err e → (o ≡ None) × (e ≡ Deals)
ok_none (Some n) r e p q = let z : ok_or (Some n) Deals ≡ Err e = sym p ∙ q in let clash : ◌≡◌ {A = ℕ} 0 1 = cc in absurd (let b : ⊥ = omega arith in b)
ok_none None r e p q = let z : ◌≡◌ {A = Result ℕ Short} (Err Deals) (Err e) = sym p ∙ q in (refl, cc)

pub ok_some : (o : Option ℕ) (r : Result ℕ Short) (n : ℕ) → r ≡ ok_or o Deals → r ≡ Ok n → o ≡ Some n
ok_some (Some m) r n p q = let z : ◌≡◌ {A = Result ℕ Short} (Ok m) (Ok n) = sym p ∙ q in let same : m ≡ n = cc in ap Some same
ok_some None r n p q = let z : ◌≡◌ {A = Result ℕ Short} (Err Deals) (Ok n) = sym p ∙ q in let clash : ◌≡◌ {A = ℕ} 0 1 = cc in absurd (let b : ⊥ = omega arith in b)

-- ALL MORNINGS

pub record MorningsListing (kept : List ℕ) (days : List DayAt) (t : ℕ) (xs : List DealIn) (deals : List DealIn) (count : ℕ) : Type 0 where
  pub done : List DealIn
  pub rest : List DealIn
  pub all : xs ≡ done ++ rest
  pub run : AllRun kept days t (length days - t) rest
  pub many : count ≡ length done
  pub front : take count deals ≡ done
  pub room : count ≤ length deals

all_step : (kept : List ℕ) (days : List DayAt) (t n : ℕ) (xs : List DealIn) → 0 < n → AllRun kept days t n xs →
    (ys : List DealIn) × (zs : List DealIn) × DealsRun (bytes_of kept (get_or days t nowhere)) (get_or days t nowhere).parts.deals 2 t ys × AllRun kept days (t + 1) (n - 1) zs × (xs ≡ ys ++ zs)
unfolding AllRun
all_step kept days t zero xs p h = absurd (omega arith)
all_step kept days t (suc n) xs p h = (h.0, h.1, h.2, subst (λ m. AllRun kept days (t + 1) m h.1) (sym (pred_of n)) (subst (λ m. AllRun kept days m n h.1) (sym (add-one t)) h.3), h.4)

all_end : (kept : List ℕ) (days : List DayAt) (t n : ℕ) (xs : List DealIn) → n ≡ 0 → AllRun kept days t n xs → xs ≡ []
unfolding AllRun
all_end kept days t zero xs e h = h
all_end kept days t (suc n) xs e h = absurd (omega arith)

module _ (kept : List ℕ) (days : List DayAt) (t : ℕ) (xs deals : List DealIn) (count : ℕ) (lt : t < length days) (l : MorningsListing kept days t xs deals count) where
  abbrev step : (ys : List DealIn) × (zs : List DealIn) × DealsRun (bytes_of kept (get_or days t nowhere)) (get_or days t nowhere).parts.deals 2 t ys × AllRun kept days (t + 1) (length days - t - 1) zs × (l.rest ≡ ys ++ zs)
  step = all_step kept days t (length days - t) l.rest (omega arith) l.run

  pub morning_next : List DealIn
  morning_next = step.0

  pub morning_runs : DealsRun (bytes_of kept (get_or days t nowhere)) (get_or days t nowhere).parts.deals 2 t morning_next
  unfolding morning_next
  morning_runs = step.2

  pub mornings_full : length deals < count + length morning_next → length deals < 0 + length xs
  unfolding morning_next
  mornings_full h = omega (arith, ap length l.all, length-append l.done l.rest, ap length step.4, length-append step.0 step.1, l.many)

  pub mornings_more : (n : ℕ) (deals' : List DealIn) → length deals' ≡ length deals → (n ≡ count + length morning_next) × (n ≤ length deals) × (take n deals' ≡ take count deals ++ morning_next) →
      MorningsListing kept days (t + 1) xs deals' n
  unfolding morning_next
  mornings_more n deals' long h =
      record {
        done = l.done ++ step.0;
        rest = step.1;
        all = l.all ∙ ap (λ z. l.done ++ z) step.4 ∙ sym (append_assoc l.done step.0 step.1);
        run = subst (λ m. AllRun kept days (t + 1) m step.1) (omega arith) step.3;
        many = omega (arith, h.0, l.many, length-append l.done step.0);
        front = h.2 ∙ ap (λ z. z ++ step.0) l.front;
        room = omega (arith, h.1);
      }

pub mornings_end : (kept : List ℕ) (days : List DayAt) (t : ℕ) (xs deals : List DealIn) (count : ℕ) → length days ≤ t → MorningsListing kept days t xs deals count →
    (count ≡ 0 + length xs) × (count ≤ length deals) × (take count deals ≡ xs)
mornings_end kept days t xs deals count le l =
    let none = all_end kept days t (length days - t) l.rest (omega arith) l.run in
    let same : xs ≡ l.done = l.all ∙ ap (λ z. l.done ++ z) none ∙ append-nil l.done in
    (omega (arith, ap length same, l.many), l.room, l.front ∙ sym same)
