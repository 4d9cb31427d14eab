-- Amounts added up, one after the other.
use Rattle.std.proofs.Common.{◌≡◌, ℕ, ◌+◌, ◌<◌, ◌≤◌, Bool, true, false, eqb, ◌≢◌, List, [], ◌∷◌, ◌++◌, map, length, get_or, take, set, ℤ, pos, ◌+ℤ◌, neg_ℤ, sym, refl, ap, ◌∙◌, subst, ⊎_elim, arith, w64}
use lib.IntN.{+ℤ_idl, +ℤ_idr, +ℤ_assoc, +ℤ_comm}
use Rattle.std.specs.Int.{int_wrap}
use Rattle.std.proofs.lemmas.Int.{ints, int_wrap-add_same, int_wrap_fits, SFits-int_wrap}
use Rattle.std.proofs.lemmas.List.{get_or-set_same, get_or-set_other, take_more, take_all}
use Rattle.std.proofs.lemmas.Bool.{eq-eqb, ne_eqb, cases_eq}
use Rattle.deals.specs.Contract.{pick}
use Rattle.deals.specs.Residual.{come_to}
use Rattle.replay.specs.declared.dues.Due.{Due}
use Rattle.replay.specs.declared.dues.Above.TheVariants.{Turn}
use Rattle.replay.specs.Dues.{lift_due, no_due}
use Rattle.replay.specs.Adding.{GrownBy, DueAdded}
use Rattle.replay.specs.Meaning.{as_due}

wrapped_twice : (z : ℤ) → int_wrap w64 (int_wrap w64 z) ≡ int_wrap w64 z
wrapped_twice z = int_wrap_fits w64 (int_wrap w64 z) (SFits-int_wrap w64 z)

abbrev DueAt : Due → List ℤ → ℤ → ℕ → Type 0
DueAt d sums v j = int_wrap w64 (get_or (set sums d.currency v) j (pos 0)) ≡ int_wrap w64 (get_or sums j (pos 0) +ℤ pick (eqb d.currency j) d.amount (pos 0))

pub due_here : (d : Due) (sums : List ℤ) (v : ℤ) → d.currency < length sums → v ≡ int_wrap w64 (get_or sums d.currency (pos 0) +ℤ d.amount) →
    DueAdded d sums (set sums d.currency v)
due_here d sums v h e k lt = ⊎_elim here other (cases_eq d.currency k)
  where
    own : DueAt d sums v d.currency
    own = rw (get_or-set_same sums d.currency v (pos 0) h, eq-eqb d.currency d.currency refl) (ap (int_wrap w64) e ∙ wrapped_twice _)

    here : d.currency ≡ k → DueAt d sums v k
    here q = subst (DueAt d sums v) q own

    other : d.currency ≢ k → DueAt d sums v k
    other ne = rw (get_or-set_other sums d.currency k v (pos 0) (λ q. ne (sym q)), ne_eqb d.currency k ne) (ap (int_wrap w64) (sym (+ℤ_idr (get_or sums k (pos 0)))))

-- one more amount
come_append : (k : ℕ) (xs : List Due) (d : Due) → come_to k (map as_due (xs ++ d ∷ [])) ≡ come_to k (map as_due xs) +ℤ pick (eqb d.currency k) d.amount (pos 0)
unfolding come_to
come_append k [] d = let v = pick (eqb d.currency k) d.amount (pos 0) in +ℤ_idr v ∙ sym (+ℤ_idl v)
come_append k (x ∷ xs) d =
    ap (λ z. pick (eqb x.currency k) x.amount (pos 0) +ℤ z) (come_append k xs d) ∙ sym (+ℤ_assoc (pick (eqb x.currency k) x.amount (pos 0)) (come_to k (map as_due xs)) _)

-- so many amounts are added
abbrev pub AddedSoFar : List Due → ℕ → List ℤ → List ℤ → Type 0
AddedSoFar xs i was sums =
    (k : ℕ) → k < length was → int_wrap w64 (get_or sums k (pos 0)) ≡ int_wrap w64 (get_or was k (pos 0) +ℤ come_to k (map as_due (take i xs)))

pub added_none : (xs : List Due) (was : List ℤ) → AddedSoFar xs 0 was was
unfolding come_to
added_none xs was k lt = ap (int_wrap w64) (sym (+ℤ_idr (get_or was k (pos 0))))

pub added_more : (xs : List Due) (i : ℕ) (was sums sums' : List ℤ) → length sums ≡ length was → i < length xs → DueAdded (get_or xs i no_due) sums sums' →
    AddedSoFar xs i was sums → AddedSoFar xs (i + 1) was sums'
added_more xs i was sums sums' long lt one so_far k h =
    let d = get_or xs i no_due in
    let here = pick (eqb d.currency k) d.amount (pos 0) in
    let before = come_to k (map as_due (take i xs)) in
    let sum : come_to k (map as_due (take (i + 1) xs)) ≡ before +ℤ here =
    ap (λ z. come_to k (map as_due z)) (take_more xs i no_due lt) ∙ come_append k (take i xs) d in
    one k (omega arith) ∙ int_wrap-add_same w64 (get_or sums k (pos 0)) (get_or was k (pos 0) +ℤ before) here (so_far k h)
    ∙ ap (int_wrap w64) (+ℤ_assoc (get_or was k (pos 0)) before here ∙ ap (λ z. get_or was k (pos 0) +ℤ z) (sym sum))

pub added_all : (xs : List Due) (i : ℕ) (was sums : List ℤ) → length xs ≤ i → AddedSoFar xs i was sums → GrownBy (λ k. come_to k (map as_due xs)) was sums
added_all xs i was sums le h k lt = h k lt ∙ ap (λ z. int_wrap w64 (get_or was k (pos 0) +ℤ come_to k (map as_due z))) (take_all i xs le)

-- the other way round
turned_pick : (b : Bool) (a : ℤ) → int_wrap w64 (pick b (int_wrap w64 (neg_ℤ a)) (pos 0)) ≡ int_wrap w64 (neg_ℤ (pick b a (pos 0)))
turned_pick true a = wrapped_twice (neg_ℤ a)
turned_pick false a = refl

turned_come : (k : ℕ) (xs : List Due) → int_wrap w64 (come_to k (map as_due (map (lift_due Turn) xs))) ≡ int_wrap w64 (neg_ℤ (come_to k (map as_due xs)))
unfolding come_to
turned_come k [] = refl
turned_come k (x ∷ xs) =
    let p = pick (eqb x.currency k) x.amount (pos 0) in
    let c = come_to k (map as_due xs) in
    let c' = come_to k (map as_due (map (lift_due Turn) xs)) in
    int_wrap-add_same w64 _ (neg_ℤ p) c' (turned_pick (eqb x.currency k) x.amount) ∙ ap (int_wrap w64) (+ℤ_comm (neg_ℤ p) c')
    ∙ int_wrap-add_same w64 c' (neg_ℤ c) (neg_ℤ p) (turned_come k xs) ∙ ap (int_wrap w64) (turned_both c p)
  where
    turned_both : (c p : ℤ) → neg_ℤ c +ℤ neg_ℤ p ≡ neg_ℤ (p +ℤ c)
    turned_both c p = omega (arith, ints)

pub turned_grown : (xs : List Due) (f : ℕ → ℤ) (sums sums' : List ℤ) → ((k : ℕ) → neg_ℤ (come_to k (map as_due xs)) ≡ f k) →
    GrownBy (λ k. come_to k (map as_due (map (lift_due Turn) xs))) sums sums' → GrownBy f sums sums'
turned_grown xs f sums sums' is h k lt =
    let s = get_or sums k (pos 0) in
    let turned = come_to k (map as_due (map (lift_due Turn) xs)) in
    h k lt ∙ ap (int_wrap w64) (+ℤ_comm s turned) ∙ int_wrap-add_same w64 turned (neg_ℤ (come_to k (map as_due xs))) s (turned_come k xs)
    ∙ ap (int_wrap w64) (+ℤ_comm (neg_ℤ (come_to k (map as_due xs))) s ∙ ap (λ z. s +ℤ z) (is k))
