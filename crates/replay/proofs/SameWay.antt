-- Two ways are the same if their numbers are.
use Rattle.std.proofs.Common.{◌≡◌, ℕ, ◌+◌, ◌*◌, ◌%◌, ◌^◌, ◌<◌, ◌≤◌, min, Bool, true, false, ◌&&◌, eqb, [], ◌∷◌, length, sym, refl, ap, ◌∙◌, mul_comm, pow-suc, arith, pow_mono}
use Rattle.std.proofs.lemmas.Nat.{mul-le}
use Rattle.std.proofs.lemmas.Bool.{false_from_ne_true, eqb-true, eq-eqb, and_parts, and_from}
use Rattle.deals.specs.Contract.{Path, same_path}
use Rattle.deals.proofs.Choices.{same_path_true, same_path_refl}
use Rattle.replay.specs.Choices.{one_more, way_bits}
use Rattle.replay.specs.Meaning.{Bits}

-- a way as a number of any size
read_from : ℕ → Path → ℕ
read_from b [] = b
read_from b (s ∷ p) = read_from (b * 2 + s) p

bits_are : (b : ℕ) (p : Path) → way_bits (b % 18446744073709551616) p ≡ read_from b p % 18446744073709551616
unfolding way_bits read_from
bits_are b [] = refl
bits_are b (s ∷ p) =
    let same : one_more (b % 18446744073709551616) s ≡ (b * 2 + s) % 18446744073709551616 = omega arith in
    ap (λ z. way_bits z p) same ∙ bits_are (b * 2 + s) p

-- 2 to the power of a way's length
room : Path → ℕ
room [] = 1
room (s ∷ p) = 2 * room p

room_is : (p : Path) → room p ≡ 2 ^ length p
unfolding room
room_is [] = refl
room_is (s ∷ p) = ap (λ z. 2 * z) (room_is p) ∙ mul_comm 2 (2 ^ length p) ∙ sym (pow-suc 2 (length p))

below : (b : ℕ) (p : Path) → Bits p → read_from b p < (b + 1) * room p
unfolding read_from room
below b [] h = omega arith
below b (s ∷ p) h =
    omega (arith, below (b * 2 + s) p h.1, mul-le (b * 2 + s + 1) (room p) ((b + 1) * 2) (room p) (omega (arith, h.0)) (omega arith))

one_way : (b c : ℕ) (p q : Path) → Bits p → Bits q → length p ≡ length q → read_from b p ≡ read_from c q → (b ≡ c) × (p ≡ q)
unfolding read_from
one_way b c [] [] h g l e = (e, refl)
one_way b c [] (y ∷ q) h g l e = absurd (omega arith)
one_way b c (x ∷ p) [] h g l e = absurd (omega arith)
one_way b c (x ∷ p) (y ∷ q) h g l e =
    let rest = one_way (b * 2 + x) (c * 2 + y) p q h.1 g.1 (omega arith) e in
    let first : x ≡ y = omega (arith, rest.0, h.0, g.0) in
    (omega (arith, rest.0, h.0, g.0), (λ i. first i ∷ rest.1 i))

short_way : (p : Path) → Bits p → length p ≤ 64 → read_from 0 p < 18446744073709551616
short_way p h le =
    let most : 2 ^ length p ≤ 18446744073709551616 = pow_mono le in
    omega (arith, below 0 p h, room_is p)

clash : (b : Bool) → b ≡ true → b ≡ false → ⊥
clash b p q = let z : true ≡ false = sym p ∙ q in grind arith

abbrev same_numbers : Path → Path → Bool
same_numbers q p = eqb (length q) (min (length p) 18446744073709551615) && eqb (way_bits 0 q) (way_bits 0 p)

numbers_true : (q p : Path) → Bits q → Bits p → length q ≤ 64 → same_numbers q p ≡ true → q ≡ p
numbers_true q p h g le e =
    let parts = and_parts (eqb (length q) (min (length p) 18446744073709551615)) (eqb (way_bits 0 q) (way_bits 0 p)) e in
    let long : length q ≡ min (length p) 18446744073709551615 = eqb-true (length q) (min (length p) 18446744073709551615) parts.0 in
    let same : length q ≡ length p = omega arith in
    let bits : way_bits 0 q ≡ way_bits 0 p = eqb-true (way_bits 0 q) (way_bits 0 p) parts.1 in
    let few : length p ≤ 64 = omega arith in
    let equal : read_from 0 q ≡ read_from 0 p = omega (arith, short_way q h le, short_way p g few, bits_are 0 q, bits_are 0 p, bits) in
    (one_way 0 0 q p h g same equal).1

pub ways_same : (q p : Path) → Bits q → Bits p → length q ≤ 64 → same_numbers q p ≡ same_path q p
ways_same q p h g le = by (same_path q p) refl
  where
    by : (t : Bool) → same_path q p ≡ t → same_numbers q p ≡ t
    by true e =
        let is : q ≡ p = same_path_true q p e in
        and_from (eqb (length q) (min (length p) 18446744073709551615)) (eqb (way_bits 0 q) (way_bits 0 p))
        (eq-eqb (length q) (min (length p) 18446744073709551615) (let l = ap length is in omega arith)) (eq-eqb (way_bits 0 q) (way_bits 0 p) (ap (way_bits 0) is))
    by false e = false_from_ne_true (same_numbers q p) (λ t. clash (same_path q p) (ap (λ z. same_path q z) (sym (numbers_true q p h g le t)) ∙ same_path_refl q) e)
