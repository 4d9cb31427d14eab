-- Mornings in bounds, deal by deal and choice by choice. Assumes nothing.
use Rattle.std.proofs.Common.{◌≡◌, ℕ, zero, suc, ◌+◌, ◌<◌, ◌≤◌, true, ◌≢◌, List, [], ◌∷◌, length, get_or, ℤ, pos, nat_abs, sym, refl, subst, arith}
use Rattle.std.specs.List.{AllByRecursion}
use Rattle.deals.specs.Contract.{Deal, Choice, Morning}
use Rattle.deals.specs.Promise.{size, ContractFits, Fit}
use Rattle.deals.proofs.Sizes.{size_is}
use Rattle.texts.specs.Stages.{built_at}
use Rattle.texts.specs.declared.stages.Stage.{Stage}
use Rattle.mornings.specs.Laws.{InBounds}
use Rattle.mornings.specs.declared.Start.{Start}

-- a deal between two that there are, from the day on which it comes or later
pub record DealFits (stage : Stage) (st : Start) (day : ℕ) (d : Deal) : Type 0 where
  pub holder : d.holder < st.houses
  pub other : d.other < st.houses
  pub two : d.other ≢ d.holder
  pub not_over : day ≤ d.from
  pub from : d.from < 65536
  pub contract : ContractFits st.rates st.currencies d.contract
  pub built : built_at stage d.contract ≡ true

pub record ChoiceFits (c : Choice) : Type 0 where
  pub deal : c.of < 65536
  pub long : length c.at ≤ 64
  pub steps : AllByRecursion (λ b. b ≤ 1) c.at

-- a morning in bounds, on a day and with so many deals before it
pub record MorningFits (stage : Stage) (st : Start) (day so_far : ℕ) (m : Morning) : Type 0 where
  pub in_time : day < 65536
  pub room : so_far + length m.deals ≤ 65536
  pub new_deals : length m.deals ≤ 65535
  pub deals : AllByRecursion (DealFits stage st day) m.deals
  pub all_rates : length m.day.rates ≡ st.rates
  pub rates : AllByRecursion (λ a. nat_abs a ≤ 1000000000) m.day.rates
  pub all_choices : length m.day.choices ≤ 65535
  pub choices : AllByRecursion ChoiceFits m.day.choices

-- ONE BY ONE AND AT EACH PLACE

all_at : {A : Type 0} (P : A → Type 0) (xs : List A) → AllByRecursion P xs → (j : ℕ) (d : A) → j < length xs → get_or xs j d ≡ d → P d
all_at P [] h j d lt e = let z : ⊥ = omega arith in absurd z
all_at P (x ∷ xs) h zero d lt e = subst P e h.0
all_at P (x ∷ xs) h (suc j) d lt e = all_at P xs h.1 j d (omega arith) e

at_all : {A : Type 0} (P : A → Type 0) (xs : List A) → ((j : ℕ) (d : A) → j < length xs → get_or xs j d ≡ d → P d) → AllByRecursion P xs
at_all P [] f = tt
at_all P (x ∷ xs) f = (f 0 x (omega arith) refl, at_all P xs (λ j d lt e. f (suc j) d (omega arith) e))

-- the same where the default is in bounds itself
all_read : {A : Type 0} (P : A → Type 0) (d : A) → P d → (xs : List A) → AllByRecursion P xs → (k : ℕ) → P (get_or xs k d)
all_read P d p [] h k = p
all_read P d p (x ∷ xs) h zero = h.0
all_read P d p (x ∷ xs) h (suc k) = all_read P d p xs h.1 k

read_all : {A : Type 0} (P : A → Type 0) (d : A) (xs : List A) → ((k : ℕ) → P (get_or xs k d)) → AllByRecursion P xs
read_all P d [] f = tt
read_all P d (x ∷ xs) f = (f 0, read_all P d xs (λ k. f (suc k)))

small_size : (a : ℤ) → nat_abs a ≤ 1000000000 → size a ≤ 1000000000
small_size a h = subst (λ n. n ≤ 1000000000) (sym (size_is a)) h

small_abs : (a : ℤ) → size a ≤ 1000000000 → nat_abs a ≤ 1000000000
small_abs a h = subst (λ n. n ≤ 1000000000) (size_is a) h

module _ (stage : Stage) (st : Start) (day : ℕ) where
  -- a morning that is in bounds piece by piece, and mornings behind it
  pub fit_more : (so_far : ℕ) (m : Morning) (ms : List Morning) → MorningFits stage st day so_far m → Fit (built_at stage) st.houses st.rates st.currencies (suc day) ms → Fit (built_at stage) st.houses st.rates st.currencies day (m ∷ ms)
  unfolding Fit
  fit_more so_far m ms f rest = (
    f.new_deals,
    f.all_choices,
    λ j x lt e. let c = all_at ChoiceFits m.day.choices f.choices j x lt e in (c.deal, c.long, all_read (λ b. b ≤ 1) 0 (omega arith) x.at c.steps),
    λ j d lt e. let c = all_at (DealFits stage st day) m.deals f.deals j d lt e in (c.holder, c.other, λ same. c.two (sym same), c.not_over, c.from, c.contract, c.built),
    f.all_rates,
    λ k. small_size (get_or m.day.rates k (pos 0)) (all_read (λ a. nat_abs a ≤ 1000000000) (pos 0) (omega arith) m.day.rates f.rates k),
    rest,
  )

  pub fits_piecewise : (so_far : ℕ) (m : Morning) → InBounds stage st day so_far m → MorningFits stage st day so_far m
  unfolding Fit
  fits_piecewise so_far m b =
      let f = b.fit in
      record {
        in_time = b.in_time;
        room = b.room;
        new_deals = f.0;
        deals = at_all (DealFits stage st day) m.deals
            (λ j d lt e. let c = f.3 j d lt e in record { holder = c.0; other = c.1; two = λ same. c.2 (sym same); not_over = c.3; from = c.4; contract = c.5; built = c.6 });
        all_rates = f.4;
        rates = read_all (λ a. nat_abs a ≤ 1000000000) (pos 0) m.day.rates (λ k. small_abs (get_or m.day.rates k (pos 0)) (f.5 k));
        all_choices = f.1;
        choices = at_all ChoiceFits m.day.choices
            (λ j x lt e. let c = f.2 j x lt e in record { deal = c.0; long = c.1; steps = read_all (λ b. b ≤ 1) 0 x.at c.2 });
      }
