-- Amounts that are due, modulo 2^64: one more in a currency, and an amount seen through what stands above it.
use Rattle.std.proofs.Common.{◌≡◌, ℕ, suc, ◌-◌, ◌<◌, ◌≤◌, eqb, List, [], ◌∷◌, length, get_or, ℤ, pos, ◌+ℤ◌, ◌-ℤ◌, neg_ℤ, sym, ap, ◌∙◌, ⊎_elim, arith, w64}
use Rattle.std.specs.Prelude.{Option}
use Rattle.std.specs.Int.{int_wrap}
use Rattle.std.proofs.lemmas.List.{get_or-set_same, get_or-set_other, length-set}
use Rattle.std.proofs.lemmas.Int.{ints, int_wrap_fits, SFits-int_wrap, int_wrap-add_right, int_wrap-sub_right}
use Rattle.std.proofs.lemmas.Bool.Decides.{nat_tests}
use Rattle.std.proofs.lemmas.Bool.{eq-eqb, ne_eqb, cases_eq}
use Rattle.deals.specs.Contract.{pick}
use Rattle.deals.specs.Residual.{turn, scale, through}
use Rattle.deals.specs.Residual as model
use Rattle.deals.specs.Shared.{Entry, chain}
use Rattle.residual.specs.Layout.{above_at}
use Rattle.residual.specs.Steps.{with_due, by_above, seen_through}
use Rattle.residual.specs.Deal.{Coded, Table}
use Rattle.residual.proofs.Unroll.{through_step}

-- it does not matter where on the way a number is cut to 64 bits
wrapped_twice : (a : ℤ) → int_wrap w64 (int_wrap w64 a) ≡ int_wrap w64 a
wrapped_twice a = int_wrap_fits w64 (int_wrap w64 a) (SFits-int_wrap w64 a)

negated : (a : ℤ) → pos 0 -ℤ a ≡ neg_ℤ a
negated a = omega (arith, ints)

wrapped_neg : (a : ℤ) → int_wrap w64 (neg_ℤ (int_wrap w64 a)) ≡ int_wrap w64 (neg_ℤ a)
wrapped_neg a = ap (int_wrap w64) (sym (negated (int_wrap w64 a))) ∙ int_wrap-sub_right w64 (pos 0) a ∙ ap (int_wrap w64) (negated a)

wrapped_neg_same : (a b : ℤ) → int_wrap w64 a ≡ int_wrap w64 b → int_wrap w64 (neg_ℤ a) ≡ int_wrap w64 (neg_ℤ b)
wrapped_neg_same a b e = sym (wrapped_neg a) ∙ ap (λ z. int_wrap w64 (neg_ℤ z)) e ∙ wrapped_neg b

-- an amount that is the same modulo 2^64 is so as it is seen through what stands above
same_under : (w : model.Above) (o : ℕ) (rest : List model.Above) (z : Option ℕ) → Coded z w o → ((a b : ℤ) → int_wrap w64 a ≡ int_wrap w64 b → int_wrap w64 (through rest a) ≡ int_wrap w64 (through rest b)) →
    (a b : ℤ) → int_wrap w64 a ≡ int_wrap w64 b → int_wrap w64 (through (w ∷ rest) a) ≡ int_wrap w64 (through (w ∷ rest) b)
unfolding through
same_under turn o rest z c f a b e = f (neg_ℤ a) (neg_ℤ b) (wrapped_neg_same a b e)
same_under (scale v) o rest z c f a b e = absurd c

through_same : (s : List ℕ) (es : List Entry) → Table s es → (j : ℕ) → j ≤ length es → (a b : ℤ) → int_wrap w64 a ≡ int_wrap w64 b → int_wrap w64 (through (chain es j) a) ≡ int_wrap w64 (through (chain es j) b)
unfolding Table chain through
through_same s [] h j le a b e = e
through_same s (n ∷ older) (c, ol, h) j le a b e =
    ⊎_elim
    (λ is.
    rw (eq-eqb j (suc (length older)) is)
    (same_under n.what n.over (chain older n.over) (above_at s (suc (length older))) c (through_same s older h n.over ol) a b e))
    (λ ne. rw (ne_eqb j (suc (length older)) ne) (through_same s older h j (omega arith) a b e)) (cases_eq j (suc (length older)))

-- the bytes show what the entries say
through_none : (s : List ℕ) (n : ℕ) (a : ℤ) → 0 < n → seen_through n s 0 a ≡ a
unfolding above_at by_above
through_none s n a h = through_step n s 0 a h

right_under : (w : model.Above) (o : ℕ) (rest : List model.Above) (z : Option ℕ) (a : ℤ) (go : ℕ → ℤ → ℤ) → Coded z w o → ((b : ℤ) → int_wrap w64 (go o b) ≡ int_wrap w64 (through rest b)) →
    ((b : ℤ) → int_wrap w64 (through rest (int_wrap w64 b)) ≡ int_wrap w64 (through rest b)) → int_wrap w64 (by_above go a z) ≡ int_wrap w64 (through (w ∷ rest) a)
unfolding through by_above
right_under turn o rest z a go c f g = ap (λ q. int_wrap w64 (by_above go a q)) c ∙ f (int_wrap w64 (neg_ℤ a)) ∙ g (neg_ℤ a)
right_under (scale v) o rest z a go c f g = absurd c

pub through_right : (s : List ℕ) (es : List Entry) → Table s es → (n j : ℕ) → j ≤ length es → length es < n → (a : ℤ) → int_wrap w64 (seen_through n s j a) ≡ int_wrap w64 (through (chain es j) a)
unfolding Table chain through
through_right s [] h n j le few a = ap (int_wrap w64) (ap (λ q. seen_through n s q a) (omega arith) ∙ through_none s n a (omega arith))
through_right s (e ∷ older) (c, ol, h) n j le few a =
    ⊎_elim
    (λ is.
    rw (eq-eqb j (suc (length older)) is)
    (ap (int_wrap w64) (through_step n s j a (omega arith) ∙ ap (λ q. by_above (seen_through (n - 1) s) a (above_at s q)) is)
    ∙ right_under e.what e.over (chain older e.over) (above_at s (suc (length older))) a (seen_through (n - 1) s) c
    (through_right s older h (n - 1) e.over ol (omega arith))
    (λ b. through_same s older h e.over ol (int_wrap w64 b) b (wrapped_twice b))))
    (λ ne. rw (ne_eqb j (suc (length older)) ne) (through_right s older h n j (omega arith) (omega arith) a)) (cases_eq j (suc (length older)))

-- an amount more in a currency
pub length_due : (due : List ℤ) (k : ℕ) (a : ℤ) → length (with_due due k a) ≡ length due
unfolding with_due
length_due due k a = grind (arith, nat_tests, length-set)

pub due_more : (due : List ℤ) (k : ℕ) (a b : ℤ) → int_wrap w64 a ≡ int_wrap w64 b → (q : ℕ) → q < length due →
    int_wrap w64 (get_or (with_due due k a) q (pos 0)) ≡ int_wrap w64 (get_or due q (pos 0) +ℤ pick (eqb k q) b (pos 0))
unfolding with_due
due_more due k a b e q h =
    let x = get_or due k (pos 0) in
    let same : int_wrap w64 (x +ℤ a) ≡ int_wrap w64 (x +ℤ b) = sym (int_wrap-add_right w64 x a) ∙ ap (λ z. int_wrap w64 (x +ℤ z)) e ∙ int_wrap-add_right w64 x b in
    let none : get_or due q (pos 0) +ℤ pos 0 ≡ get_or due q (pos 0) = omega (arith, ints) in
    grind (arith, nat_tests, get_or-set_same, get_or-set_other, wrapped_twice)
