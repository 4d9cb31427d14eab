-- Of some flows those of one day, and how large they can be.
use Rattle.std.proofs.Common.{◌≡◌, ℕ, zero, suc, ◌*◌, ◌<◌, ◌≤◌, Bool, true, false, ◌&&◌, eqb, ltb, List, [], ◌∷◌, ◌++◌, map, ℤ, ◌*ℤ◌, neg_ℤ, Some, None, sym, refl, ap, ◌∙◌, ⊎_elim, arith, w64}
use Rattle.std.specs.List.{AllByRecursion}
use Rattle.std.specs.Option.{option_map}
use Rattle.std.proofs.lemmas.Nat.{mul-le}
use Rattle.std.proofs.lemmas.Int.{int_wrap_fits}
use Rattle.std.proofs.lemmas.Bool.{lt-ltb, le-ltb, cases_lt, eq-eqb}
use Rattle.deals.specs.Contract.{Flow, Contract, nothing, pays, turned, both, choice, either, scaled, on_day, when, by_day, pick, million, down, turned_flows, scaled_flows, from_first}
use Rattle.deals.specs.Promise.{size, moves, all_of, PartsFit}
use Rattle.deals.proofs.Sizes.{size_neg, size_mul}
use Rattle.replay.specs.declared.dues.Due.{Due}
use Rattle.replay.specs.declared.dues.Above.TheVariants.{Turn, Scale}
use Rattle.replay.specs.Dues.{lift_due}
use Rattle.replay.specs.declared.flow.Part.{Part}
use Rattle.replay.specs.First.{found}
use Rattle.replay.specs.Flow.{goes_on}
use Rattle.replay.specs.Meaning.{due_of, dues_on}
use Rattle.replay.proofs.Figures.{short_fits}

pick_append : (b : Bool) (d : Due) (xs ys : List Due) → pick b (d ∷ (xs ++ ys)) (xs ++ ys) ≡ pick b (d ∷ xs) xs ++ ys
pick_append true d xs ys = refl
pick_append false d xs ys = refl

pub dues_append : (u : ℕ) (fs gs : List Flow) → dues_on u (fs ++ gs) ≡ dues_on u fs ++ dues_on u gs
unfolding dues_on
dues_append u [] gs = refl
dues_append u (f ∷ fs) gs = ap (λ z. pick (eqb f.on u) (due_of f ∷ z) z) (dues_append u fs gs) ∙ pick_append (eqb f.on u) (due_of f) (dues_on u fs) (dues_on u gs)

pick_map : (b : Bool) (g : Due → Due) (d e : Due) (xs : List Due) → e ≡ g d → pick b (e ∷ map g xs) (map g xs) ≡ map g (pick b (d ∷ xs) xs)
pick_map true g d e xs p = ap (λ z. z ∷ map g xs) p
pick_map false g d e xs p = refl

same_due : (k : ℕ) (a b : ℤ) → a ≡ b → ◌≡◌ {A = Due} (record { currency = k; amount = a }) (record { currency = k; amount = b })
same_due k a b e = ap (λ z. record { currency = k; amount = z }) e

pub dues_turned : (u : ℕ) (fs : List Flow) → AllByRecursion (λ f. size f.amount < 4611686018427387904) fs → dues_on u (turned_flows fs) ≡ map (lift_due Turn) (dues_on u fs)
unfolding dues_on turned_flows
dues_turned u [] h = refl
dues_turned u (f ∷ fs) h =
    let fits = short_fits (neg_ℤ f.amount) (omega (arith, size_neg f.amount, h.0)) in
    ap (λ z. pick (eqb f.on u) (record { currency = f.currency; amount = neg_ℤ f.amount } ∷ z) z) (dues_turned u fs h.1)
    ∙ pick_map (eqb f.on u) (lift_due Turn) (due_of f) _ (dues_on u fs) (same_due f.currency (neg_ℤ f.amount) _ (sym (int_wrap_fits w64 (neg_ℤ f.amount) fits)))

pub dues_scaled : (u : ℕ) (v : ℤ) (fs : List Flow) → AllByRecursion (λ f. size (f.amount *ℤ v) < 4611686018427387904) fs → dues_on u (scaled_flows v fs) ≡ map (lift_due (Scale v)) (dues_on u fs)
unfolding dues_on scaled_flows
dues_scaled u v [] h = refl
dues_scaled u v (f ∷ fs) h =
    let fits = short_fits (f.amount *ℤ v) h.0 in
    ap (λ z. pick (eqb f.on u) (record { currency = f.currency; amount = down (f.amount *ℤ v) million } ∷ z) z) (dues_scaled u v fs h.1)
    ∙ pick_map (eqb f.on u) (lift_due (Scale v)) (due_of f) _ (dues_on u fs)
    (same_due f.currency (down (f.amount *ℤ v) million) _ (ap (λ z. down z million) (sym (int_wrap_fits w64 (f.amount *ℤ v) fits))))

-- a payment, on a day that is known
and_true : (b : Bool) (xs : List Due) → pick (b && true) xs [] ≡ pick b xs []
and_true true xs = refl
and_true false xs = refl

and_false : (b : Bool) (xs : List Due) → pick (b && false) xs [] ≡ []
and_false true xs = refl
and_false false xs = refl

pub pays_on : (u t k : ℕ) (a : ℤ) (known : Bool) → pick (eqb t u && known) (record { currency = k; amount = a } ∷ []) [] ≡ dues_on u (pick known (record { on = t; currency = k; amount = a } ∷ []) [])
unfolding dues_on
pays_on u t k a true = and_true (eqb t u) (record { currency = k; amount = a } ∷ [])
pays_on u t k a false = and_false (eqb t u) (record { currency = k; amount = a } ∷ [])

-- what comes of a day that is known; of one of two; of the first of some days
pub gate : (u t n : ℕ) (xs : List Due) (fs : List Flow) → (t < n → xs ≡ dues_on u fs) → pick (ltb t n) xs [] ≡ dues_on u (pick (ltb t n) fs [])
unfolding dues_on
gate u t n xs fs h = ⊎_elim (λ lt. rw (lt-ltb t n lt) (h lt)) (λ le. rw (le-ltb t n le)) (cases_lt t n)

pub branch : (u : ℕ) (b : Bool) (xs ys : List Due) (fs gs : List Flow) → xs ≡ dues_on u fs → ys ≡ dues_on u gs → pick b xs ys ≡ dues_on u (pick b fs gs)
branch u true xs ys fs gs p q = p
branch u false xs ys fs gs p q = q

pub none_on : (u : ℕ) → ◌≡◌ {A = List Due} [] (dues_on u [])
unfolding dues_on
none_on u = refl

-- what comes of a part that goes on: one of two, one, or the one that the first of some days gives
pub goes_branch : (b c : Bool) (p q : Part) (go : Part → List Due) → goes_on (pick b (Some (pick c p q)) None) go ≡ pick b (pick c (go p) (go q)) []
goes_branch true true p q go = refl
goes_branch true false p q go = refl
goes_branch false c p q go = refl

pub goes_one : (b : Bool) (p : Part) (go : Part → List Due) → goes_on (pick b (Some p) None) go ≡ pick b (go p) []
goes_one true p go = refl
goes_one false p go = refl

pub goes_first : (u z : ℕ) (begun : ℕ → Part) (go : Part → List Due) (g : ℕ → List Flow) → ((v : ℕ) → go (begun v) ≡ dues_on u (g v)) →
    goes_on (option_map begun (found z)) go ≡ dues_on u (from_first z g)
unfolding dues_on from_first
goes_first u zero begun go g h = refl
goes_first u (suc v) begun go g h = h v

-- SIZES

all_weaker : {P Q : Flow → Type 0} → ((f : Flow) → P f → Q f) → (fs : List Flow) → AllByRecursion P fs → AllByRecursion Q fs
all_weaker g [] h = tt
all_weaker g (f ∷ fs) h = (g f h.0, all_weaker g fs h.1)

each_small : (m : ℕ) (fs : List Flow) → ((k : ℕ) → all_of k fs ≤ m) → AllByRecursion (λ f. size f.amount ≤ m) fs
unfolding all_of
each_small m [] h = tt
each_small m (f ∷ fs) h =
    let own : pick (eqb f.currency f.currency) (size f.amount) 0 ≡ size f.amount = rw (eq-eqb f.currency f.currency refl) in
    (omega (arith, h f.currency), each_small m fs (λ k. omega (arith, h k)))

pub small_flows : (m : ℕ) (fs : List Flow) → m < 1099511627776 → ((k : ℕ) → all_of k fs ≤ m) → AllByRecursion (λ f. size f.amount < 4611686018427387904) fs
small_flows m fs lt h = all_weaker (λ f g. omega arith) fs (each_small m fs h)

pub small_products : (m l : ℕ) (v : ℤ) (fs : List Flow) → m * l < 4611686018427387904 → size v ≤ l → ((k : ℕ) → all_of k fs ≤ m) → AllByRecursion (λ f. size (f.amount *ℤ v) < 4611686018427387904) fs
small_products m l v fs lt s h =
    all_weaker (λ f g. omega (arith, size_mul f.amount v, mul-le (size f.amount) (size v) m l g s)) fs (each_small m fs h)

pub moves_below : (rs cs : ℕ) (x : Contract) → PartsFit rs cs x → moves x < 1099511627776
unfolding PartsFit moves
moves_below rs cs nothing f = omega arith
moves_below rs cs (pays k a) f = f.1
moves_below rs cs (turned x) f = moves_below rs cs x f
moves_below rs cs (both x y) f = f.2
moves_below rs cs (choice x y) f = f.2
moves_below rs cs (either e x y) f = f.3
moves_below rs cs (scaled e x) f = f.2
moves_below rs cs (on_day d x) f = moves_below rs cs x f.1
moves_below rs cs (when e x) f = moves_below rs cs x f.1
moves_below rs cs (by_day d x) f = moves_below rs cs x f.1
