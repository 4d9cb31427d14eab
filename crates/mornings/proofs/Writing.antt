-- Payments behind one another in bytes.
use Rattle.std.proofs.Common.{◌≡◌, ℕ, zero, suc, ◌+◌, ◌*◌, ◌/◌, ◌<◌, ◌≤◌, Bool, true, false, List, [], ◌∷◌, ◌++◌, map, length, get_or, drop, set, ℤ, pos, negsuc, nat_abs, ◌<ℤ◌, Some, None, Option, sym, refl, ap, ◌∙◌, subst, ⊎_elim, add-one, arith}
use lib.Signed.{lt_z}
use Rattle.std.proofs.lemmas.Int.{ints}
use Rattle.std.proofs.lemmas.Bool.Decides.{nat_tests}
use Rattle.deals.proofs.Sizes.{size_is}
use Rattle.std.proofs.lemmas.Grind.{flat_map-append}
use Rattle.std.proofs.lemmas.List.{map-append, get_or-set_same, get_or-set_other, length-append, length-drop, append_assoc, append-nil}
use Rattle.std.proofs.lemmas.Bool.{cases_eq}
use Rattle.octets.specs.Octets.{put}
use Rattle.deals.specs.Contract.{pick, is_zero}
use Rattle.deals.specs.Lines.{line, for_each, pair_lines}
use Rattle.deals.specs.Payments.{written}
use Rattle.mornings.specs.declared.payments.Payment.{Payment}
use Rattle.mornings.specs.Payments.{payment_bytes, payments_bytes}
use Rattle.mornings.proofs.Puts.{put_next}
use Rattle.mornings.proofs.Paid.{length_payment}
use Rattle.mornings.specs.Pairs.{as_bytes, payment_of, Written, listed, pair_payments}

-- a write to the front
put_front : (s xs : List ℕ) → put s 0 xs ≡ xs ++ drop (length xs) s
put_front s xs = ap (λ m. xs ++ drop m s) (omega arith)

pub length_bytes : (ps : List Payment) → length (payments_bytes ps) ≡ 13 * length ps
length_bytes [] = refl
length_bytes (p ∷ ps) = rw length-append (omega (arith, length_payment p, length_bytes ps))

written_more : (was : List ℕ) (ps : List Payment) (n : ℕ) (s : List ℕ) (p : Payment) → Written was ps n s → 13 * n + 13 ≤ length was → Written was (ps ++ p ∷ []) (n + 1) (put s (13 * n) (payment_bytes p))
written_more was ps n s p w h =
    let l : length (payments_bytes ps) ≡ 13 * n = length_bytes ps ∙ ap (λ m. 13 * m) (sym w.count) in
    record {
      count = rw length-append (omega (arith, w.count));
      bytes = ap (λ z. put z (13 * n) (payment_bytes p)) (w.bytes ∙ ap (λ m. payments_bytes ps ++ drop m was) (sym l) ∙ sym (put_front was (payments_bytes ps)))
          ∙ put_next was 0 (13 * n) (payments_bytes ps) (payment_bytes p) (omega arith) (omega (arith, length_payment p))
          ∙ put_front was (payments_bytes ps ++ payment_bytes p)
          ∙ ap (λ m. (payments_bytes ps ++ payment_bytes p) ++ drop m was) (omega (arith, length-append (payments_bytes ps) (payment_bytes p), length_payment p))
          ∙ ap (λ zs. zs ++ drop (13 * (n + 1)) was) (sym (flat_map-append payment_bytes ps (p ∷ []) ∙ ap (λ zs. payments_bytes ps ++ zs) (append-nil (payment_bytes p))));
    }

written_long : (was : List ℕ) (ps : List Payment) (n : ℕ) (s : List ℕ) → Written was ps n s → 13 * n ≤ length was → length s ≡ length was
written_long was ps n s w h = ap length w.bytes ∙ simp (length-append, length-drop) (omega (arith, length_bytes ps, w.count))

pub written_none : (was : List ℕ) (ps : List Payment) (n : ℕ) (s : List ℕ) → Written was ps n s → Written was (ps ++ []) n s
written_none was ps n s w = subst (λ qs. Written was qs n s) (sym (append-nil ps)) w

pub written_start : (was : List ℕ) → Written was [] 0 was
written_start was = record { count = refl; bytes = refl }

-- an Option that holds a payment
module _ (n : ℕ) (p : Payment) (payment : Option Payment) (is : payment ≡ Some p) (s was : List ℕ) (ps : List Payment) (w : Written was ps n s) (h : 13 * n + 13 * length (listed payment) ≤ length was) where
  fits_more : 13 * n + 13 ≤ length was
  fits_more = let one : length (listed payment) ≡ 1 = ap (λ o. length (listed o)) is in omega arith

  pub appended_room : length s / 13 ≤ n → ⊥
  appended_room full = omega (arith, written_long was ps n s w (omega (arith, fits_more)), fits_more)

  pub appended : (s' : List ℕ) → s' ≡ put s (13 * n) (payment_bytes p) → Written was (ps ++ listed payment) (n + 1) s'
  appended s' e = rw (e, is) (written_more was ps n s p w fits_more)

-- ONE CURRENCY AFTER THE OTHER

not_zero : (v : ℤ) → (v ≡ pos 0 → ⊥) → is_zero v ≡ false
unfolding is_zero
not_zero (pos zero) h = absurd (h refl)
not_zero (pos (suc n)) h = grind (arith, nat_tests)
not_zero (negsuc n) h = refl

pub pays_up : (a b k m : ℕ) (v : ℤ) → pos 0 <ℤ v → m ≡ nat_abs v → ◌≡◌ {A = Option Payment} (Some (record { from = a; to = b; currency = k; amount = m })) (payment_of a b k v)
unfolding payment_of written
pays_up a b k m v h e =
    let some : is_zero v ≡ false = not_zero v (λ z. omega (arith, ints)) in
    let above : lt_z v (pos 0) ≡ false = grind (arith, nat_tests, ints) in
    rw (some, above) (ap (λ z. Some (record { from = a; to = b; currency = k; amount = z })) (e ∙ sym (size_is v)))

pub pays_down : (a b k m : ℕ) (v : ℤ) → v <ℤ pos 0 → m ≡ nat_abs v → ◌≡◌ {A = Option Payment} (Some (record { from = b; to = a; currency = k; amount = m })) (payment_of a b k v)
unfolding payment_of written
pays_down a b k m v h e =
    let some : is_zero v ≡ false = not_zero v (λ z. omega (arith, ints)) in
    let below : lt_z v (pos 0) ≡ true = grind (arith, nat_tests, ints) in
    rw (some, below) (ap (λ z. Some (record { from = b; to = a; currency = k; amount = z })) (e ∙ sym (size_is v)))

pub pays_none : (a b k : ℕ) (v : ℤ) → v ≡ pos 0 → ◌≡◌ {A = Option Payment} None (payment_of a b k v)
unfolding payment_of is_zero
pays_none a b k v e = rw e

pub each_more : {A : Type 0} (f : ℕ → List A) (i n : ℕ) → for_each f i (suc n) ≡ for_each f i n ++ f (i + n)
unfolding for_each
each_more f i zero = append-nil (f i) ∙ ap f (omega arith)
each_more f i (suc n) = ap (λ z. f i ++ z) (each_more f (suc i) n) ∙ sym (append_assoc (f i) (for_each f (suc i) n) (f (suc i + n))) ∙ ap (λ m. (f i ++ for_each f (suc i) n) ++ f m) (omega arith)

listed_is : (a b k : ℕ) (v : ℤ) → listed (payment_of a b k v) ≡ map (λ l. as_bytes (written l)) (line a b k v)
unfolding payment_of line
listed_is a b k v = by (is_zero v)
  where
    by : (z : Bool) → listed (pick z None (Some (as_bytes (written (record { low = a; high = b; currency = k; total = v }))))) ≡ map (λ l. as_bytes (written l)) (pick z [] (record { low = a; high = b; currency = k; total = v } ∷ []))
    by true = refl
    by false = refl

pub one_currency : (k a b : ℕ) (f : ℕ → ℤ) → pair_payments (k + 1) a b f ≡ pair_payments k a b f ++ listed (payment_of a b k (f k))
unfolding pair_lines
one_currency k a b f =
    rw (add-one k) (ap (map (λ l. as_bytes (written l))) (each_more (λ k. line a b k (f k)) 0 k ∙ ap (λ m. for_each (λ k. line a b k (f k)) 0 k ++ line a b m (f m)) (omega arith))
    ∙ map-append (λ l. as_bytes (written l)) (for_each (λ k. line a b k (f k)) 0 k) (line a b k (f k)) ∙ ap (λ z. pair_payments k a b f ++ z) (sym (listed_is a b k (f k))))

pub no_currency : (a b : ℕ) (f : ℕ → ℤ) → pair_payments 0 a b f ≡ []
unfolding pair_lines for_each
no_currency a b f = refl

pub longer : (i n a b : ℕ) (f : ℕ → ℤ) → i ≤ n → length (pair_payments i a b f) ≤ length (pair_payments n a b f)
longer i zero a b f h = let e : i ≡ 0 = omega arith in rw e (omega arith)
longer i (suc n) a b f h =
    let more : length (pair_payments (suc n) a b f) ≡ length (pair_payments n a b f) + length (listed (payment_of a b n (f n))) =
    ap (λ m. length (pair_payments m a b f)) (sym (add-one n)) ∙ ap length (one_currency n a b f) ∙ length-append (pair_payments n a b f) _ in
    ⊎_elim (λ e. rw e (omega arith)) (λ ne. omega (arith, more, longer i n a b f (omega arith))) (cases_eq i (suc n))

-- the currency behind the first ones
pub pair_more : (a b i n m : ℕ) (f : ℕ → ℤ) (was : List ℕ) (ps : List Payment) (count count' : ℕ) (s s' : List ℕ) → i < n → m ≡ length ps →
    13 * m + 13 * length (pair_payments n a b f) ≤ length was →
    (Written was (ps ++ pair_payments i a b f) count s → 13 * count + 13 * length (listed (payment_of a b i (f i))) ≤ length was →
    Written was ((ps ++ pair_payments i a b f) ++ listed (payment_of a b i (f i))) count' s') →
    Written was (ps ++ pair_payments i a b f) count s → Written was (ps ++ pair_payments (i + 1) a b f) count' s'
pair_more a b i n m f was ps count count' s s' lt counts fits appends w =
    let one = listed (payment_of a b i (f i)) in
    let is : pair_payments (i + 1) a b f ≡ pair_payments i a b f ++ one = one_currency i a b f in
    let long : length (pair_payments (i + 1) a b f) ≡ length (pair_payments i a b f) + length one = ap length is ∙ length-append (pair_payments i a b f) one in
    let so_far : count ≡ length ps + length (pair_payments i a b f) = w.count ∙ length-append ps (pair_payments i a b f) in
    subst (λ z. Written was z count' s') (append_assoc ps (pair_payments i a b f) one ∙ ap (λ z. ps ++ z) (sym is)) (appends w (omega (arith, longer (i + 1) n a b f (omega arith))))

-- sums set to 0, one after the other
pub zeros_more : (xs : List ℤ) (i : ℕ) → i < length xs → ((j : ℕ) → j < i → get_or xs j (pos 0) ≡ pos 0) → (j : ℕ) → j < i + 1 → get_or (set xs i (pos 0)) j (pos 0) ≡ pos 0
zeros_more xs i within zeros j below =
    ⊎_elim (λ e. rw e (get_or-set_same xs i (pos 0) (pos 0) within)) (λ ne. get_or-set_other xs i j (pos 0) (pos 0) ne ∙ zeros j (omega arith)) (cases_eq j i)

pub behind_more : (xs was : List ℤ) (i : ℕ) → ((j : ℕ) → i ≤ j → get_or xs j (pos 0) ≡ get_or was j (pos 0)) → (j : ℕ) → i + 1 ≤ j → get_or (set xs i (pos 0)) j (pos 0) ≡ get_or was j (pos 0)
behind_more xs was i same j above = get_or-set_other xs i j (pos 0) (pos 0) (omega arith) ∙ same j (omega arith)
