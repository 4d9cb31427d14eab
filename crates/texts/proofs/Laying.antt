-- Bytes that are written one after the other. Assumes nothing.
use Rattle.std.proofs.Common.{◌≡◌, ℕ, zero, suc, ◌+◌, ◌^◌, ◌<◌, ◌≤◌, List, [], ◌∷◌, ◌++◌, length, get_or, take, drop, set, ℤ, pos, negsuc, nat_abs, codes, sym, refl, ap, ◌∙◌, subst, arith, length-append, w64, SFits}
use Rattle.std.specs.Int.Digits.{digits_of}
use Rattle.std.specs.Fmt.{decimal, signed_decimal}
use Rattle.std.proofs.lemmas.Fmt.{decimal_digit, decimal-digits_of}
use Rattle.std.proofs.lemmas.Int.Digits.{length-digits_of-le}
use Rattle.std.proofs.lemmas.List.{take_more, length-map}
use Rattle.std.proofs.lemmas.List.Edits.{sets, sets-eq}
use Rattle.texts.specs.Written.{written_number, written_amount, written_rate}
use Rattle.texts.specs.Spelling.{laid, Put}

pub laid_append : (l : List ℕ) (i : ℕ) (u v : List ℕ) → laid l i (u ++ v) ≡ laid (laid l i u) (i + length u) v
laid_append l i [] v = ap (λ n. laid l n v) (omega arith)
laid_append l i (b ∷ u) v = laid_append (set l i b) (suc i) u v ∙ ap (λ n. laid (laid (set l i b) (suc i) u) n v) (omega arith)

laid_sets : (l : List ℕ) (i : ℕ) (w : List ℕ) → laid l i w ≡ sets l i w
laid_sets l i [] = refl
laid_sets l i (b ∷ w) = laid_sets (set l i b) (suc i) w

pub laid_room : (l : List ℕ) (i : ℕ) (w : List ℕ) → i + length w ≤ length l → laid l i w ≡ take i l ++ w ++ drop (i + length w) l
laid_room l i w h = laid_sets l i w ∙ sets-eq w l i h

-- one after the other
pub put_then : {a b c : List ℕ} {to next end : ℕ} {u v : List ℕ} → Put a b to u next → Put b c next v end → Put a c to (u ++ v) end
put_then {a} {b} {c} {to} {next} {end} {u} {v} p q = record {
  bytes = q.bytes ∙ ap (λ l. laid l next v) p.bytes ∙ ap (λ n. laid (laid a to u) n v) p.behind ∙ sym (laid_append a to u v);
  behind = let x = p.behind in let y = q.behind in omega (arith, length-append u v);
}

pub put_more : (a b c word : List ℕ) (to i next end : ℕ) → i < length word → Put a b to (take i word) next → Put b c next (get_or word i 0 ∷ []) end → Put a c to (take (i + 1) word) end
put_more a b c word to i next end l p q = subst (λ w. Put a c to w end) (sym (take_more word i 0 l)) (put_then p q)

-- numbers, as the library writes them
pub decimal_written : (n : ℕ) → n < 18446744073709551616 → decimal n ≡ written_number n
decimal_written zero h = decimal_digit 0 (omega arith)
decimal_written (suc n) h = decimal-digits_of (suc n) (omega arith) (omega arith)

pub signed_written : (a : ℤ) → nat_abs a < 18446744073709551616 → signed_decimal a ≡ written_amount a
signed_written (pos n) h = decimal_written n h
signed_written (negsuc n) h = ap (λ w. 45 ∷ w) (decimal_written (suc n) h)

pub number_length : (n k : ℕ) → n < 10 ^ k → 1 ≤ k → length (written_number n) ≤ k
number_length zero k h l = l
number_length (suc n) k h l = subst (λ m. m ≤ k) (sym (length-map (digits_of 10 (suc n)) (λ d. 48 + d))) (length-digits_of-le 10 k (suc n) (omega arith) h)

pub word_length : (n : ℕ) → n < 18446744073709551616 → length (written_number n) ≤ 20
word_length n h = number_length n 20 (omega arith) (omega arith)

pub amount_length : (a : ℤ) → nat_abs a < 18446744073709551616 → length (written_amount a) ≤ 21
amount_length (pos n) h = let l = word_length n h in omega arith
amount_length (negsuc n) h = let l = word_length (suc n) h in omega arith

rate_some : (k n : ℕ) → (n ≡ 0 → ⊥) → written_rate k n ≡ codes "rate " ++ (written_number k ++ (codes " " ++ written_number n))
rate_some k zero e = absurd (e refl)
rate_some k (suc n) e = refl

pub put_rate_some : {a b : List ℕ} {to next : ℕ} (k n : ℕ) → (n ≡ 0 → ⊥) → Put a b to (codes "rate " ++ (written_number k ++ (codes " " ++ written_number n))) next → Put a b to (written_rate k n) next
put_rate_some {a} {b} {to} {next} k n e p = subst (λ w. Put a b to w next) (sym (rate_some k n e)) p

pub natAbs_small : (a : ℤ) → SFits w64 a → nat_abs a < 18446744073709551616
natAbs_small (pos n) h = let l = h.sfits in omega arith
natAbs_small (negsuc n) h = let l = h.sfits in omega arith

pub put_as : {a b u w : List ℕ} {to next : ℕ} → u ≡ w → Put a b to u next → Put a b to w next
put_as {a} {b} {to = to} {next = next} e p = subst (λ z. Put a b to z next) e p
