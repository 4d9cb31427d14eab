-- The refusal of what comes too many. Assumes nothing.
use Rattle.std.proofs.Common.{◌≡◌, ℕ, eqb, ◌⊎◌, List, Ok, Err, MatchBool, Result, refl, ap, ◌∙◌, inl, inr, arith, eq-eqb, ne_eqb, MatchResult}
use Rattle.std.proofs.lemmas.Bool.{cases_eq}
use Rattle.mornings.specs.Verdict.{Fault, Verdict, taken, refused, Field, cut, wrong, right}
use Rattle.mornings.specs.Judgement.{fault_of, Reads, IsTooMany, first_fault, no_room}
use Rattle.mornings.specs.declared.Refusal.{Refusal}
use Rattle.mornings.specs.declared.Refusal.TheVariants.{TooMany}

-- a number has one verdict
pub field_one : {A : Type 0} {n : ℕ} {means : ℕ → A} {P : A → Type 0} {s : List ℕ} {i : ℕ} {v w : Verdict A} → Field n means P s i v → Field n means P s i w → v ≡ w
field_one (cut h) (cut k) = refl
field_one (cut h) (wrong k w) = let z : ⊥ = omega arith in absurd z
field_one (cut h) (right k w) = let z : ⊥ = omega arith in absurd z
field_one (wrong h p) (cut k) = let z : ⊥ = omega arith in absurd z
field_one (wrong h p) (wrong k w) = refl
field_one (wrong h p) (right k w) = absurd (p w)
field_one (right h p) (cut k) = let z : ⊥ = omega arith in absurd z
field_one (right h p) (wrong k w) = absurd (w p)
field_one (right h p) (right k w) = refl

pub apart : {A : Type 0} {a : A} {j : ℕ} {e : Fault} → taken a j ≡ refused e → ⊥
apart h = let z : ◌≡◌ {A = ℕ} 0 1 = cc in omega arith

-- no fault at a place, where the verdict is another one
none_taken : {A : Type 0} {n : ℕ} {means : ℕ → A} {P : A → Type 0} {s : List ℕ} {i : ℕ} {a : A} {j : ℕ} → Field n means P s i (taken a j) → (e : Fault) → Field n means P s i (refused e) → e.place ≡ i → ⊥
none_taken h e g p = apart (field_one h g)

none_later : {A : Type 0} {n : ℕ} {means : ℕ → A} {P : A → Type 0} {s : List ℕ} {i : ℕ} (d : Fault) → Field n means P s i (refused d) → (d.place ≡ i → ⊥) → (e : Fault) → Field n means P s i (refused e) → e.place ≡ i → ⊥
none_later d h far e g p =
    let same : refused d ≡ refused e = field_one h g in
    let faults : d ≡ e = cc in far (ap (λ f. f.place) faults ∙ p)

-- the refusal of what comes too many, from the answer on its first part
pub by_first : (n : ℕ) (P : ℕ → Type 0) (s : List ℕ) (i : ℕ) (first : Result (ℕ × ℕ) Refusal) (r : Refusal) → Reads (Field n (λ v. v) P) s i first → MatchResult first (λ _. r ≡ TooMany i) (λ e. MatchBool (eqb (fault_of e).place i) (r ≡ e) (r ≡ TooMany i)) → IsTooMany (Field n (λ v. v) P) s i (fault_of r)
by_first n P s i (Ok p) r h e = rw e (no_room (none_taken h))
by_first n P s i (Err d) r h e = by_place (cases_eq (fault_of d).place i)
  where
    by_place : ((fault_of d).place ≡ i) ⊎ ((fault_of d).place ≡ i → ⊥) → IsTooMany (Field n (λ v. v) P) s i (fault_of r)
    by_place (inl same) = let e' : r ≡ d = rw (eq-eqb (fault_of d).place i same) at e in rw e' (first_fault h same)
    by_place (inr far) = let e' : r ≡ TooMany i = rw (ne_eqb (fault_of d).place i far) at e in rw e' (no_room (none_later (fault_of d) h far))
