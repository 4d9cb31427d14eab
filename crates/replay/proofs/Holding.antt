-- What a row of amounts holds after one more, or after some came out above.
use Rattle.std.proofs.Common.{◌≡◌, ℕ, zero, suc, ◌+◌, ◌-◌, ◌<◌, ◌≤◌, min, List, [], ◌∷◌, ◌++◌, map, length, get_or, take, drop, set, sym, refl, ap, ◌∙◌, subst, append_assoc, arith, length-append, Result, Ok, Err, IsOk, OnOk, OnErr, length-take, append-nil}
use Rattle.std.proofs.Math.Seq.{take-nil}
use Rattle.std.specs.List.{refill}
use Rattle.std.proofs.lemmas.List.{set_at, get_or_at, take_at, take-map}
use Rattle.arrayvec.specs.ArrayVec.{ArrayVec}
use Rattle.replay.specs.declared.dues.Due.{Due}
use Rattle.replay.specs.declared.dues.Dues.{Dues}
use Rattle.replay.specs.declared.dues.Above.{Above}
use Rattle.replay.specs.Dues.{Held, Adds, Lifts, lift_due, no_due}

take_both : (n : ℕ) (xs ys : List Due) → take n (xs ++ ys) ≡ take n xs ++ take (n - length xs) ys
take_both n [] ys = let same : n ≡ n - 0 = omega arith in ap (λ m. take m ys) same ∙ ap (λ z. z ++ take (n - 0) ys) (sym (take-nil n))
take_both zero (x ∷ xs) ys = let none : 0 ≡ 0 - length (x ∷ xs) = omega arith in ap (λ m. take m ys) none
take_both (suc n) (x ∷ xs) ys =
    let same : n - length xs ≡ suc n - length (x ∷ xs) = omega arith in
    ap (λ z. x ∷ z) (take_both n xs ys ∙ ap (λ m. take n xs ++ take m ys) same)

first_of : (xs ys : List Due) → take 257 (xs ++ ys) ≡ take 257 xs ++ take (257 - length xs) ys
first_of xs ys = take_both 257 xs ys

first_few : (xs : List Due) → length (take 257 xs) ≡ min (length xs) 257
first_few xs = length-take 257 xs ∙ omega arith

some_first : (n : ℕ) (d : Due) → 0 < n → take n (d ∷ []) ≡ d ∷ []
some_first zero d h = absurd (omega arith)
some_first (suc n) d h = ap (λ z. d ∷ z) (take-nil n)

-- one more, if there is room
pub pushed : {A B : Type 0} (r : Result A B) (was now : ArrayVec Due) (d : Due) (xs : List Due) → (IsOk r → length was.items < 257) → OnOk r (now.items ≡ was.items ++ d ∷ []) →
    OnErr r (now ≡ was) → OnErr r (length was.items ≡ 257) → was.items ≡ take 257 xs → now.items ≡ take 257 (xs ++ d ∷ [])
pushed (Ok u) was now d xs room put same full h =
    let few = first_few xs in
    let long = ap length h in
    let less = room refl in
    put ∙ ap (λ z. z ++ d ∷ []) h ∙ sym (first_of xs (d ∷ []) ∙ ap (λ z. take 257 xs ++ z) (some_first (257 - length xs) d (omega arith)))
pushed (Err e) was now d xs room put same full h =
    let few = first_few xs in
    let long = ap length h in
    let none : 257 - length xs ≡ 0 = omega arith in
    ap (λ v. v.items) same ∙ h ∙ sym (first_of xs (d ∷ []) ∙ ap (λ n. take 257 xs ++ take n (d ∷ [])) none ∙ append-nil (take 257 xs))

pub how_many : (d : Dues) (xs : List Due) → Held d xs → length d.items.items ≡ min (length xs) 257
how_many d xs h = ap length h ∙ first_few xs

-- as many written as there were
pub refill_all : (row new : List Due) → length new ≡ length row → refill (length row) row new ≡ new
refill_all row new e = take_at new (drop (length new) row) (length row) e

-- n items from place i on are changed, one after the other
pub changed : (Due → Due) → List Due → ℕ → ℕ → List Due
changed f row i zero = row
changed f row i (suc n) = changed f (set row i (f (get_or row i no_due))) (i + 1) n

pub changed_step : (f : Due → Due) (row : List Due) (i n : ℕ) → i < n → changed f row i (n - i) ≡ changed f (set row i (f (get_or row i no_due))) (i + 1) (n - (i + 1))
unfolding changed
changed_step f row i n h = let more : n - i ≡ suc (n - (i + 1)) = omega arith in rw more

pub changed_none : (f : Due → Due) (row : List Due) (i n : ℕ) → n ≤ i → changed f row i (n - i) ≡ row
unfolding changed
changed_none f row i n h = let none : n - i ≡ 0 = omega arith in rw none

changed_is : (f : Due → Due) (xs ys zs : List Due) (i : ℕ) → i ≡ length xs → changed f (xs ++ (ys ++ zs)) i (length ys) ≡ xs ++ (map f ys ++ zs)
unfolding changed
changed_is f xs [] zs i e = refl
changed_is f xs (y ∷ ys) zs i e =
    let read : get_or (xs ++ y ∷ (ys ++ zs)) i no_due ≡ y = ap (λ j. get_or (xs ++ y ∷ (ys ++ zs)) j no_due) e ∙ get_or_at xs y (ys ++ zs) no_due (length xs) refl in
    let put : set (xs ++ y ∷ (ys ++ zs)) i (f y) ≡ (xs ++ f y ∷ []) ++ (ys ++ zs) = set_at xs y (ys ++ zs) (f y) i (sym e) ∙ sym (append_assoc xs (f y ∷ []) (ys ++ zs)) in
    let more = length-append xs (f y ∷ []) in
    ap (λ z. changed f (set (xs ++ y ∷ (ys ++ zs)) i (f z)) (i + 1) (length ys)) read ∙ ap (λ z. changed f z (i + 1) (length ys)) put
    ∙ changed_is f (xs ++ f y ∷ []) ys zs (i + 1) (omega arith) ∙ append_assoc xs (f y ∷ []) (map f ys ++ zs)

-- all amounts from a place on came out above
pub lifted_from : (d d' : Dues) (from : ℕ) (above : Above) → d'.items.items ≡ changed (lift_due above) d.items.items from (length d.items.items - from) → Lifts d d' from above
lifted_from d d' from above is xs ys h e =
    let f = lift_due above in
    let n = 257 - length xs in
    let row : d.items.items ≡ take 257 xs ++ (take n ys ++ []) = h ∙ first_of xs ys ∙ ap (λ z. take 257 xs ++ z) (sym (append-nil (take n ys))) in
    let at : from ≡ length (take 257 xs) = e ∙ sym (first_few xs) in
    let many : length d.items.items - from ≡ length (take n ys) = omega (arith, ap length row, length-append (take 257 xs) (take n ys ++ []), length-append (take n ys) [], at) in
    is ∙ (λ i. changed f (row i) from (many i)) ∙ changed_is f (take 257 xs) (take n ys) [] from at ∙ ap (λ z. take 257 xs ++ z) (append-nil (map f (take n ys)) ∙ sym (take-map f n ys))
    ∙ sym (first_of xs (map f ys))

pub adds_as : {a b : Dues} (xs ys : List Due) → xs ≡ ys → Adds a b ys → Adds a b xs
adds_as {a} {b} xs ys e h = subst (Adds a b) (sym e) h

pub adds_none : (a : Dues) → Adds a a []
adds_none a xs h = subst (Held a) (sym (nil_right xs)) h
  where
    nil_right : (zs : List Due) → zs ++ [] ≡ zs
    nil_right [] = refl
    nil_right (z ∷ zs) = ap (λ v. z ∷ v) (nil_right zs)

pub adds_both : {a b c : Dues} (xs ys : List Due) → Adds a b xs → Adds b c ys → Adds a c (xs ++ ys)
adds_both {c = c} xs ys p q zs h = subst (Held c) (append_assoc zs xs ys) (q (zs ++ xs) (p zs h))

pub adds_lifted : {a b c : Dues} (xs : List Due) (from : ℕ) (above : Above) → Adds a b xs → ((zs : List Due) → Held a zs → from ≡ min (length zs) 257) → Lifts b c from above → Adds a c (map (lift_due above) xs)
adds_lifted xs from above p n l zs h = l zs xs (p zs h) (n zs h)
