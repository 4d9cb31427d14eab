-- Deals in the order of their pairs, paid pair by pair.
use Rattle.std.proofs.Common.{◌≡◌, ℕ, zero, suc, ◌+◌, ◌-◌, ◌*◌, ◌/◌, ◌%◌, ◌<◌, ◌≤◌, min, true, false, eqb, ltb, ◌≢◌, List, [], ◌∷◌, ◌++◌, map, length, get_or, take, drop, replicate, ℤ, pos, ◌+ℤ◌, neg_ℤ, sym, refl, ap, ◌∙◌, subst, append_assoc, arith, length-append, w64}
use lib.IntN.{+ℤ_idl}
use Rattle.std.specs.Int.{int_wrap}
use Rattle.std.proofs.lemmas.Int.{int_wrap-add_same, int_wrap_fits}
use Rattle.std.proofs.lemmas.List.{map-append, drop_more, drop_all, length-map, length-take, length-replicate, get_or-take, get_or-replicate, get_or-map}
use Rattle.std.proofs.lemmas.Bool.{eq-eqb, ne_eqb}
use Rattle.deals.specs.Contract.{pick, is_zero}
use Rattle.deals.specs.Promise.{size}
use Rattle.deals.specs.House.{Owes}
use Rattle.deals.specs.Residual.{come_to}
use Rattle.std.proofs.lemmas.Bool.Decides.{nat_tests}
use Rattle.deals.specs.Lines.{Line, line, pair, for_each, pair_lines}
use Rattle.deals.specs.Payments.{written, low_of, high_of, pair_of, adds, paired, nobody, Between}
use Rattle.deals.proofs.Sums.{pick_cases}
use Rattle.deals.proofs.Sizes.{size_is, size_add, size_neg}
use Rattle.mornings.specs.declared.payments.Payment.{Payment}
use Rattle.mornings.specs.Pairs.{as_bytes, Written, Zeros, pair_payments, PairPaid}
use Rattle.replay.specs.Adding.{GrownBy}
use Rattle.replay.specs.Settle.{grouped_payments, owed_by}
use Rattle.replay.proofs.Figures.{short_fits}
use Rattle.mornings.proofs.Writing.{written_start}

abbrev paid_lines : List Line → List Payment
paid_lines ls = map (λ l. as_bytes (written l)) ls

-- HOW MANY

line_few : (a b k : ℕ) (v : ℤ) → length (line a b k v) ≤ 1
unfolding line
line_few a b k v = pick_cases (λ ls. length ls ≤ 1) (is_zero v) [] (record { low = a; high = b; currency = k; total = v } ∷ []) (λ e. omega arith) (λ e. omega arith)

each_few : (f : ℕ → List Line) → ((k : ℕ) → length (f k) ≤ 1) → (i n : ℕ) → length (for_each f i n) ≤ n
unfolding for_each
each_few f h i zero = omega arith
each_few f h i (suc n) = omega (arith, length-append (f i) (for_each f (suc i) n), h i, each_few f h (suc i) n)

lines_few : (cs a b : ℕ) (f : ℕ → ℤ) → length (pair_lines cs a b f) ≤ cs
unfolding pair_lines
lines_few cs a b f = each_few (λ k. line a b k (f k)) (λ k. line_few a b k (f k)) 0 cs

each_none : (f : ℕ → List Line) → ((k : ℕ) → f k ≡ []) → (i n : ℕ) → for_each f i n ≡ []
unfolding for_each
each_none f h i zero = refl
each_none f h i (suc n) = ap (λ z. z ++ for_each f (suc i) n) (h i) ∙ each_none f h (suc i) n

no_lines : (cs a b : ℕ) → pair_lines cs a b (λ k. pos 0) ≡ []
unfolding pair_lines line is_zero
no_lines cs a b = each_none (λ k. line a b k (pos 0)) (λ k. refl) 0 cs

paired_few : (cs a b : ℕ) (f : ℕ → ℤ) (os : List Owes) → length (paired cs a b f os) ≤ length (pair_lines cs a b f) + length os * cs
unfolding paired
paired_few cs a b f [] = omega arith
paired_few cs a b f (o ∷ os) =
    pick_cases (λ ls. length ls ≤ length (pair_lines cs a b f) + suc (length os) * cs) (eqb (pair a b) (pair_of o)) (paired cs a b (λ k. f k +ℤ adds o k) os)
    (pair_lines cs a b f ++ paired cs (low_of o) (high_of o) (adds o) os)
    (λ e. omega (arith, paired_few cs a b (λ k. f k +ℤ adds o k) os, lines_few cs a b (λ k. f k +ℤ adds o k)))
    (λ e. omega (arith, length-append (pair_lines cs a b f) (paired cs (low_of o) (high_of o) (adds o) os), paired_few cs (low_of o) (high_of o) (adds o) os, lines_few cs (low_of o) (high_of o) (adds o)))

pub grouped_few : (cs : ℕ) (os : List Owes) → length (grouped_payments cs os) ≤ length os * cs
unfolding grouped_payments
grouped_few cs os =
    omega (arith, length-map (paired cs 0 0 (λ k. pos 0) os) (λ l. as_bytes (written l)), paired_few cs 0 0 (λ k. pos 0) os, ap length (no_lines cs 0 0))

-- ONE DEAL AFTER THE OTHER

low_small : (o : Owes) → Between 1024 o → low_of o < 1024
unfolding low_of
low_small o b = grind (arith, nat_tests, b.holds, b.owes)

high_small : (o : Owes) → Between 1024 o → high_of o < 1024
unfolding high_of
high_small o b = grind (arith, nat_tests, b.holds, b.owes)

pub adds_small : (o : Owes) (k m : ℕ) → size (come_to k o.now) ≤ m → size (adds o k) ≤ m
unfolding adds
adds_small o k m h = pick_cases (λ z. size z ≤ m) (ltb o.other o.holder) (come_to k o.now) (neg_ℤ (come_to k o.now)) (λ e. h) (λ e. omega (arith, size_neg (come_to k o.now)))

pub owed_is : (due : List Owes) (keys : List ℕ) (i : ℕ) → i < length keys → get_or (owed_by due keys) i nobody ≡ get_or due (get_or keys i 0 % 65536) nobody
unfolding owed_by
owed_is due keys i lt = get_or-map (λ w. get_or due (w % 65536) nobody) keys i 0 nobody lt

pub owed_many : (due : List Owes) (keys : List ℕ) → length (owed_by due keys) ≡ length keys
unfolding owed_by
owed_many due keys = length-map keys (λ w. get_or due (w % 65536) nobody)

pub zeros_long : (n k : ℕ) → k ≤ n → length (take (k - 0) (replicate n (pos 0))) ≡ k
zeros_long n k h = length-take (k - 0) (replicate n (pos 0)) ∙ ap (λ m. min (k - 0) m) (length-replicate n (pos 0)) ∙ omega arith

pub zeros_none : (n k : ℕ) → k ≤ n → Zeros (take (k - 0) (replicate n (pos 0)))
zeros_none n k h j lt = let few : j < k - 0 = omega (arith, zeros_long n k h) in get_or-take (k - 0) (replicate n (pos 0)) j (pos 0) few ∙ get_or-replicate n j (pos 0) (pos 0) (omega arith)

abbrev low_in : ℕ → ℕ
low_in q = q / 65536 % 65536

abbrev high_in : ℕ → ℕ
high_in q = q % 65536

-- the deals of the first i keys have been added up, and the payments of all pairs but the last are written
pub record Paying (cs : ℕ) (was : List ℕ) (os : List Owes) (i q count : ℕ) (sums : List ℤ) (s : List ℕ) : Type 0 where
  pub f : ℕ → ℤ
  pub ps : List Payment
  pub done : Written was ps count s
  pub are : (k : ℕ) → k < length sums → int_wrap w64 (get_or sums k (pos 0)) ≡ int_wrap w64 (f k)
  pub small : (k : ℕ) → size (f k) ≤ i * 1099511627776
  pub number : q < 4294967296
  pub rest : ps ++ paid_lines (paired cs (low_in q) (high_in q) f (drop i os)) ≡ grouped_payments cs os

pub paying_start : (cs : ℕ) (was : List ℕ) (os : List Owes) (sums : List ℤ) → Zeros sums → Paying cs was os 0 0 0 sums was
unfolding grouped_payments
paying_start cs was os sums z =
    record {
      f = λ k. pos 0;
      ps = [];
      done = written_start was;
      are = λ k lt. ap (int_wrap w64) (z k lt);
      small = λ k. omega (arith, size_is (pos 0));
      number = omega arith;
      rest = refl;
    }

module _ (cs : ℕ) (was : List ℕ) (os : List Owes) (i q count : ℕ) (sums : List ℤ) (s : List ℕ) (long : length sums ≡ cs) (few : i ≤ 65536) (room : 13 * (length os * cs) ≤ length was) (p : Paying cs was os i q count sums s) where
  sums_are : (k : ℕ) → k < length sums → int_wrap w64 (get_or sums k (pos 0)) ≡ p.f k
  sums_are k lt = p.are k lt ∙ int_wrap_fits w64 (p.f k) (short_fits (p.f k) (omega (arith, p.small k)))

  -- the lines of the last pair and those behind them
  roomy : (ls ms : List Line) → p.ps ++ paid_lines (ls ++ ms) ≡ grouped_payments cs os → 13 * count + 13 * length (paid_lines ls) ≤ length was
  roomy ls ms e =
      omega (
        arith,
        ap length e,
        length-append p.ps (paid_lines (ls ++ ms)),
        length-map (ls ++ ms) (λ l. as_bytes (written l)),
        length-map ls (λ l. as_bytes (written l)),
        length-append ls ms,
        grouped_few cs os,
        p.done.count,
      )

  pub paying_last : (r : ℕ) (sums' : List ℤ) (s' : List ℕ) → length os ≤ i → PairPaid (low_in q) (high_in q) count sums s r sums' s' → Written was (grouped_payments cs os) r s'
  unfolding paired
  paying_last r sums' s' le paid =
      let none : drop i os ≡ [] = drop_all i os le in
      let rest : p.ps ++ paid_lines (pair_lines cs (low_in q) (high_in q) p.f) ≡ grouped_payments cs os =
      sym (ap (λ z. p.ps ++ paid_lines (paired cs (low_in q) (high_in q) p.f z)) none) ∙ p.rest in
      let lines = pair_lines cs (low_in q) (high_in q) p.f in
      let nil : lines ++ [] ≡ lines = append_none lines in
      let many : 13 * count + 13 * length (paid_lines lines) ≤ length was = roomy lines [] (ap (λ z. p.ps ++ paid_lines z) nil ∙ rest) in
      let ended = paid was p.ps p.f p.done sums_are (subst (λ n. 13 * count + 13 * length (pair_payments n (low_in q) (high_in q) p.f) ≤ length was) (sym long) many) in
      subst (λ z. Written was z r s') (ap (λ n. p.ps ++ pair_payments n (low_in q) (high_in q) p.f) long ∙ rest) ended.written
    where
      append_none : (ls : List Line) → ls ++ [] ≡ ls
      append_none [] = refl
      append_none (l ∷ ls) = ap (λ z. l ∷ z) (append_none ls)

  module _ (o : Owes) (lt : i < length os) (is : get_or os i nobody ≡ o) (next : ℕ) (pairs : pair_of o ≡ next) (between : Between 1024 o) (size-adds : (k : ℕ) → size (adds o k) ≤ 1099511627776) where
    ahead : drop i os ≡ o ∷ drop (i + 1) os
    ahead = drop_more os i nobody lt ∙ ap (λ z. z ∷ drop (i + 1) os) is

    numbers : (next < 4294967296) × (low_in next ≡ low_of o) × (high_in next ≡ high_of o)
    unfolding pair_of
    numbers =
        let l = low_small o between in
        let h = high_small o between in
        let e : low_of o * 65536 + high_of o ≡ next = pairs in
        (omega arith, omega arith, omega arith)

    same_pair : pair (low_in q) (high_in q) ≡ q
    same_pair = omega (arith, p.number)

    pub paying_same : (sums' : List ℤ) → q ≡ next → length sums' ≡ length sums → GrownBy (adds o) sums sums' → Paying cs was os (i + 1) next count sums' s
    unfolding paired
    paying_same sums' e long' grown =
        let a = low_in q in
        let b = high_in q in
        let yes : eqb (pair a b) (pair_of o) ≡ true = eq-eqb (pair a b) (pair_of o) (same_pair ∙ e ∙ sym pairs) in
        let step : paired cs a b p.f (drop i os) ≡ paired cs a b (λ k. p.f k +ℤ adds o k) (drop (i + 1) os) =
        ap (paired cs a b p.f) ahead ∙ ap (λ z. pick z (paired cs a b (λ k. p.f k +ℤ adds o k) (drop (i + 1) os)) (pair_lines cs a b p.f ++ paired cs (low_of o) (high_of o) (adds o) (drop (i + 1) os))) yes in
        record {
          f = λ k. p.f k +ℤ adds o k;
          ps = p.ps;
          done = p.done;
          are = λ k l. grown k (omega arith) ∙ int_wrap-add_same w64 (get_or sums k (pos 0)) (p.f k) (adds o k) (p.are k (omega arith));
          small = λ k. omega (arith, size_add (p.f k) (adds o k), p.small k, size-adds k);
          number = omega (arith, p.number);
          rest = ap (λ z. p.ps ++ paid_lines (paired cs (low_in z) (high_in z) (λ k. p.f k +ℤ adds o k) (drop (i + 1) os))) (sym e) ∙ ap (λ z. p.ps ++ paid_lines z) (sym step) ∙ p.rest;
        }

    pub paying_other : (r : ℕ) (sums' sums'' : List ℤ) (s' : List ℕ) → q ≢ next → length sums' ≡ length sums → PairPaid (low_in q) (high_in q) count sums s r sums' s' → length sums'' ≡ length sums' →
        GrownBy (adds o) sums' sums'' → Paying cs was os (i + 1) next r sums'' s'
    unfolding paired
    paying_other r sums' sums'' s' ne long' paid long'' grown =
        let a = low_in q in
        let b = high_in q in
        let n = numbers in
        let no : eqb (pair a b) (pair_of o) ≡ false = ne_eqb (pair a b) (pair_of o) (λ e. ne (sym same_pair ∙ e ∙ pairs)) in
        let more = paired cs (low_of o) (high_of o) (adds o) (drop (i + 1) os) in
        let lines = pair_lines cs a b p.f in
        let step : paired cs a b p.f (drop i os) ≡ lines ++ more =
        ap (paired cs a b p.f) ahead ∙ ap (λ z. pick z (paired cs a b (λ k. p.f k +ℤ adds o k) (drop (i + 1) os)) (lines ++ more)) no in
        let rest : p.ps ++ paid_lines (lines ++ more) ≡ grouped_payments cs os = ap (λ z. p.ps ++ paid_lines z) (sym step) ∙ p.rest in
        let ended = paid was p.ps p.f p.done sums_are (subst (λ m. 13 * count + 13 * length (pair_payments m a b p.f) ≤ length was) (sym long) (roomy lines more rest)) in
        let all : (p.ps ++ paid_lines lines) ++ paid_lines more ≡ grouped_payments cs os =
        append_assoc p.ps (paid_lines lines) (paid_lines more) ∙ ap (λ z. p.ps ++ z) (sym (map-append (λ l. as_bytes (written l)) lines more)) ∙ rest in
        record {
          f = adds o;
          ps = p.ps ++ paid_lines lines;
          done = subst (λ m. Written was (p.ps ++ pair_payments m a b p.f) r s') long ended.written;
          are = λ k l. grown k (omega arith) ∙ ap (λ z. int_wrap w64 (z +ℤ adds o k)) (ended.zeros k (omega arith)) ∙ ap (int_wrap w64) (+ℤ_idl (adds o k));
          small = λ k. omega (arith, size-adds k);
          number = n.0;
          rest = (λ j. (p.ps ++ paid_lines lines) ++ paid_lines (paired cs (n.1 j) (n.2 j) (adds o) (drop (i + 1) os))) ∙ all;
        }
