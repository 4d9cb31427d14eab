-- The first of some days, one day after the other.
use Rattle.std.proofs.Common.{◌≡◌, ℕ, zero, suc, ◌+◌, ◌-◌, ◌<◌, ◌≤◌, Bool, true, false, MatchOption, Some, None, Option, sym, refl, ⊎_elim, ap, ◌∙◌, arith}
use Rattle.std.proofs.lemmas.Bool.{cases_eq}
use Rattle.deals.specs.Contract.{pick, first_day}
use Rattle.replay.specs.First.{found}

-- a search says which day is the first
first_at : (f : ℕ → Bool) (t n u : ℕ) → t ≤ u → u < t + n → f u ≡ true → ((k : ℕ) → t ≤ k → k < u → f k ≡ false) → first_day f t n ≡ suc u
unfolding first_day
first_at f t zero u le lt e none = absurd (omega arith)
first_at f t (suc n) u le lt e none =
    ⊎_elim (λ same. ap (λ b. pick b (suc t) (first_day f (suc t) n)) (ap f same ∙ e) ∙ ap suc same)
    (λ ne. ap (λ b. pick b (suc t) (first_day f (suc t) n)) (none t (omega arith) (omega arith)) ∙ first_at f (suc t) n u (omega arith) (omega arith) e (λ k g. none k (omega arith)))
    (cases_eq t u)

first_never : (f : ℕ → Bool) (t n : ℕ) → ((k : ℕ) → t ≤ k → k < t + n → f k ≡ false) → first_day f t n ≡ 0
unfolding first_day
first_never f t zero none = refl
first_never f t (suc n) none = ap (λ b. pick b (suc t) (first_day f (suc t) n)) (none t (omega arith) (omega arith)) ∙ first_never f (suc t) n (λ k g l. none k (omega arith) (omega arith))

pub first_found : (f : ℕ → Bool) (t n : ℕ) (r : Option ℕ) →
    MatchOption r ((k : ℕ) → t ≤ k → k < n → f k ≡ false) (λ u. (t ≤ u) × (u < n) × (f u ≡ true) × ((k : ℕ) → t ≤ k → k < u → f k ≡ false)) → r ≡ found (first_day f t (n - t))
first_found f t n (Some u) h = ap found (sym (first_at f t (n - t) u h.0 (omega (arith, h.0, h.1)) h.2 h.3))
first_found f t n None h = ap found (sym (first_never f t (n - t) (λ k g l. h k g (omega arith))))

-- only the days that are looked at count
pub first_same : (f g : ℕ → Bool) (t n : ℕ) → ((u : ℕ) → t ≤ u → u < t + n → f u ≡ g u) → first_day f t n ≡ first_day g t n
unfolding first_day
first_same f g t zero same = refl
first_same f g t (suc n) same =
    ap (λ b. pick b (suc t) (first_day f (suc t) n)) (same t (omega arith) (omega arith))
    ∙ ap (pick (g t) (suc t)) (first_same f g (suc t) n (λ u le lt. same u (omega arith) (omega arith)))
