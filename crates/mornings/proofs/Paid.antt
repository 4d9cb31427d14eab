-- Payments one behind the other. Assumes nothing.
use Rattle.std.proofs.Common.{◌≡◌, ℕ, zero, suc, ◌+◌, ◌*◌, ◌^◌, ◌<◌, List, [], ◌∷◌, ◌++◌, map, length, get_or, take, drop, sym, refl, ap, ◌∙◌, subst, ap₂, append_assoc, arith, take-append-drop}
use Rattle.std.specs.List.{AllByRecursion, range_with_len}
use Rattle.std.proofs.lemmas.List.{length-append, length-take-le, take_at, drop_at, flat_map_more}
use Rattle.deals.proofs.Payments.{paid_two_sided}
use Rattle.octets.specs.Octets.{octets_of, word, put}
use Rattle.octets.proofs.Words.{length_octets}
use Rattle.mornings.specs.Payments.{payment_bytes, payments_bytes, payment_at, PaymentFits, OneMore, ReadAgain, paid_as, payments_in, BytesSay, BytesTwoSided}
use Rattle.mornings.specs.declared.payments.Payment.{Payment}
use Rattle.mornings.proofs.Writes.{word_written}

pub length_payment : (p : Payment) → length (payment_bytes p) ≡ 13
length_payment p =
    let from = octets_of 2 p.from in
    let to = octets_of 2 p.to in
    let currency = octets_of 1 p.currency in
    let amount = octets_of 8 p.amount in
    omega (
      arith,
      length-append from (to ++ (currency ++ amount)),
      length-append to (currency ++ amount),
      length-append currency amount,
      length_octets 2 p.from,
      length_octets 2 p.to,
      length_octets 1 p.currency,
      length_octets 8 p.amount,
    )

pub one_more : OneMore
one_more s ps p room held =
    let i = 13 * length ps in
    let bs = payment_bytes p in
    let long = length_payment p in
    let front : length (take i s ++ bs) ≡ i + 13 = length-append (take i s) bs ∙ ap (λ n. n + length bs) (length-take-le i s (omega arith)) ∙ omega arith in
    let whole : put s i bs ≡ (take i s ++ bs) ++ drop (i + length bs) s = sym (append_assoc (take i s) bs (drop (i + length bs) s)) in
    let more : 13 * length (ps ++ p ∷ []) ≡ i + 13 = omega (arith, length-append ps (p ∷ [])) in (
      ap (λ n. take n (put s i bs)) more ∙ ap (take (i + 13)) whole ∙ take_at (take i s ++ bs) (drop (i + length bs) s) (i + 13) front
          ∙ ap (λ z. z ++ bs) held ∙ flat_map_more payment_bytes [] ps p,
      ap (drop (i + 13)) whole ∙ drop_at (take i s ++ bs) (drop (i + length bs) s) (i + 13) front ∙ ap (λ n. drop (i + n) s) long,
    )

-- a number among the bytes
word_there : (n v : ℕ) (s p t : List ℕ) (i : ℕ) → s ≡ p ++ (octets_of n v ++ t) → length p ≡ i → v < 256 ^ n → word n s i ≡ v
word_there n v s p t i e l small = ap (λ z. word n z i) e ∙ ap (word n (p ++ (octets_of n v ++ t))) (sym l) ∙ word_written n v p t small

same_payment : (p : Payment) (a b c d : ℕ) → a ≡ p.from → b ≡ p.to → c ≡ p.currency → d ≡ p.amount → record { from = a; to = b; currency = c; amount = d } ≡ p
same_payment p _ _ _ _ ea eb ec ed = rw (ea, eb, ec, ed) refl

payment_there : (p : Payment) (pre t : List ℕ) (i : ℕ) → PaymentFits p → length pre ≡ i → payment_at (pre ++ (payment_bytes p ++ t)) i ≡ p
payment_there p pre t i f l =
    let from = octets_of 2 p.from in
    let to = octets_of 2 p.to in
    let currency = octets_of 1 p.currency in
    let amount = octets_of 8 p.amount in
    let s = pre ++ (payment_bytes p ++ t) in
    let a : s ≡ pre ++ (from ++ (to ++ (currency ++ (amount ++ t)))) = simp append_assoc in
    let b : s ≡ (pre ++ from) ++ (to ++ (currency ++ (amount ++ t))) = simp append_assoc in
    let c : s ≡ (pre ++ (from ++ to)) ++ (currency ++ (amount ++ t)) = simp append_assoc in
    let d : s ≡ (pre ++ (from ++ (to ++ currency))) ++ (amount ++ t) = simp append_assoc in
    let n1 = length_octets 2 p.from in
    let n2 = length_octets 2 p.to in
    let n3 = length_octets 1 p.currency in
    let lb : length (pre ++ from) ≡ i + 2 = omega (arith, length-append pre from) in
    let lc : length (pre ++ (from ++ to)) ≡ i + 4 = omega (arith, length-append pre (from ++ to), length-append from to) in
    let ld : length (pre ++ (from ++ (to ++ currency))) ≡ i + 5 = omega (arith, length-append pre (from ++ (to ++ currency)), length-append from (to ++ currency), length-append to currency) in
    same_payment p _ _ _ _
    (word_there 2 p.from s pre _ i a l f.from)
    (word_there 2 p.to s (pre ++ from) _ (i + 2) b lb f.to)
    (word_there 1 p.currency s (pre ++ (from ++ to)) _ (i + 4) c lc f.currency)
    (word_there 8 p.amount s (pre ++ (from ++ (to ++ currency))) t (i + 5) d ld f.amount)

among : (ps : List Payment) (pre t : List ℕ) (i k : ℕ) (d : Payment) → AllByRecursion PaymentFits ps → length pre ≡ i → k < length ps → payment_at (pre ++ (payments_bytes ps ++ t)) (i + 13 * k) ≡ get_or ps k d
among [] pre t i k d f l lt = let z : ⊥ = omega arith in absurd z
among (p ∷ ps) pre t i zero d f l lt =
    let e : i + 13 * 0 ≡ i = omega arith in
    ap (payment_at (pre ++ ((payment_bytes p ++ payments_bytes ps) ++ t))) e
    ∙ ap (λ z. payment_at (pre ++ z) i) (append_assoc (payment_bytes p) (payments_bytes ps) t) ∙ payment_there p pre (payments_bytes ps ++ t) i f.0 l
among (p ∷ ps) pre t i (suc k) d f l lt =
    let e : i + 13 * suc k ≡ i + 13 + 13 * k = omega arith in
    let z : pre ++ ((payment_bytes p ++ payments_bytes ps) ++ t) ≡ (pre ++ payment_bytes p) ++ (payments_bytes ps ++ t) = simp append_assoc in
    ap (payment_at (pre ++ ((payment_bytes p ++ payments_bytes ps) ++ t))) e ∙ ap (λ y. payment_at y (i + 13 + 13 * k)) z
    ∙ among ps (pre ++ payment_bytes p) t (i + 13) k d f.1 (omega (arith, length-append pre (payment_bytes p), length_payment p)) (omega arith)

pub read_again : ReadAgain
read_again s ps k p f held lt =
    let n = 13 * length ps in
    let whole : s ≡ payments_bytes ps ++ drop n s = sym (take-append-drop n s) ∙ ap (λ z. z ++ drop n s) held in
    let e : 13 * k ≡ 0 + 13 * k = omega arith in
    ap (λ z. payment_at z (13 * k)) whole ∙ ap (payment_at (payments_bytes ps ++ drop n s)) e ∙ among ps [] (drop n s) 0 k p f refl lt

-- WHAT PAYMENT BYTES SAY

-- numbered things are the things, where each has its number
numbered : {A B : Type 0} (f : ℕ → B) (g : A → B) (xs : List A) (from : ℕ) → ((k : ℕ) (d : A) → k < length xs → f (from + k) ≡ g (get_or xs k d)) → map f (range_with_len from (length xs)) ≡ map g xs
numbered f g [] from h = refl
numbered f g (x ∷ xs) from h =
    let e : from ≡ from + 0 = omega arith in
    ap₂ ◌∷◌ (ap f e ∙ h 0 x (omega arith)) (numbered f g xs (from + 1) (λ k d lt. ap f (omega arith) ∙ h (suc k) d (omega arith)))

all_above : (ps : List Payment) → AllByRecursion PaymentFits ps → AllByRecursion (λ p. 0 < p.amount) (map paid_as ps)
all_above [] f = tt
all_above (p ∷ ps) f = (f.0.above, all_above ps f.1)

pub bytes_say : BytesSay
bytes_say s ps f held =
    let same = numbered (λ k. paid_as (payment_at s (13 * k))) paid_as ps 0 (λ k d lt. let e : 13 * (0 + k) ≡ 13 * k = omega arith in ap (λ i. paid_as (payment_at s i)) e ∙ ap paid_as (read_again s ps k d f held lt)) in
    (same, subst (AllByRecursion (λ p. 0 < p.amount)) (sym same) (all_above ps f))

pub bytes_two_sided : BytesTwoSided
bytes_two_sided n s k a b ne = paid_two_sided k a b ne (payments_in n s)
