-- The walk, word by word: what is paid so far, and what the words to come still give, is what all words give.
use Rattle.std.proofs.Common.{◌≡◌, ℕ, zero, suc, ◌+◌, ◌*◌, ◌/◌, ◌%◌, ◌<◌, ◌≤◌, true, ◌≢◌, List, [], ◌∷◌, ◌++◌, map, length, get_or, drop, replicate, ℤ, pos, ◌+ℤ◌, sym, refl, ap, ◌∙◌, subst, inl, inr, ⊎_elim, arith, w64, SFits}
use Rattle.std.specs.List.{AllByRecursion}
use Rattle.std.specs.Int.{int_wrap}
use Rattle.std.proofs.lemmas.List.{append_assoc, append-nil, length-append, map-append, drop_more, drop_all, get_or-replicate}
use Rattle.std.proofs.lemmas.Int.{ints, int_wrap_fits, int_wrap-add_same}
use Rattle.std.proofs.lemmas.Bool.Decides.{nat_tests}
use Rattle.std.proofs.lemmas.Bool.{cases_Bool, eq-eqb, ne_eqb, cases_eq}
use Rattle.deals.specs.Contract.{pick, larger, is_zero}
use Rattle.deals.specs.Residual.{Today}
use Rattle.deals.specs.House.{Held, Owes, owes_step}
use Rattle.deals.specs.Lines.{Line, pair, for_each, line, pair_lines}
use Rattle.deals.specs.Sleep.{smaller}
use Rattle.deals.specs.Payments.{Payment, written, low_of, high_of, pair_of, adds, paired, grouped}
use Rattle.mornings.specs.declared.pairs.Pair.{Pair}
use Rattle.settlement.specs.Keeping.{net_of, Netted}
use Rattle.settlement.specs.Paying.{Written, PaysPair, pair_payments}
use Rattle.settlement.specs.Walk.{pair_in, number_in, owing, Ready, Walked, AllWalked}
use Rattle.settlement.proofs.Words.{walked_none, walked_more, net_one}
use Rattle.settlement.proofs.Writing.{written_start}

-- a fact of all of two lists is one of all of each
pub all_left : {X : Type 0} (P : X → Type 0) (xs ys : List X) → AllByRecursion P (xs ++ ys) → AllByRecursion P xs
all_left P [] ys h = tt
all_left P (x ∷ xs) ys (a, h) = (a, all_left P xs ys h)

pub all_right : {X : Type 0} (P : X → Type 0) (xs ys : List X) → AllByRecursion P (xs ++ ys) → AllByRecursion P ys
all_right P [] ys h = h
all_right P (x ∷ xs) ys (a, h) = all_right P xs ys h

abbrev pub Whole : Line → Type 0
Whole l = SFits w64 l.total

-- what a pair comes to fits if its lines do
zero_is : (v : ℤ) → is_zero v ≡ true → v ≡ pos 0
unfolding is_zero
zero_is v e = grind (arith, ints)

line_whole : (a b k : ℕ) (v : ℤ) → AllByRecursion Whole (line a b k v) → SFits w64 v
unfolding line
line_whole a b k v h =
    elim (cases_Bool (is_zero v)) [ inl e ↦ rw (zero_is v e) (omega arith) | inr e ↦ (rw e at h).0 ]

each_whole : (f : ℕ → List Line) (i n k : ℕ) → AllByRecursion Whole (for_each f i n) → i ≤ k → k < i + n → AllByRecursion Whole (f k)
unfolding for_each
each_whole f i zero k h ge lt = absurd (omega arith)
each_whole f i (suc n) k h ge lt =
    ⊎_elim (λ e. subst (λ z. AllByRecursion Whole (f z)) (sym e) (all_left Whole (f i) (for_each f (suc i) n) h)) (λ ne. each_whole f (suc i) n k (all_right Whole (f i) (for_each f (suc i) n) h) (omega arith) (omega arith)) (cases_eq k i)

pair_whole : (cs a b : ℕ) (sums : ℕ → ℤ) → AllByRecursion Whole (pair_lines cs a b sums) → (k : ℕ) → k < cs → SFits w64 (sums k)
unfolding pair_lines
pair_whole cs a b sums h k lt = line_whole a b k (sums k) (each_whole (λ q. line a b q (sums q)) 0 cs k h (omega arith) (omega arith))

-- the pair of a word
abbrev pub word_pair : ℕ → Pair
word_pair w = record { low = pair_in w / 65536 % 65536; high = pair_in w % 65536 }

-- the walk so far: with pair `at`, of which sums have come together modulo 2^64
pub record Walking (n cs : ℕ) (see : ℕ → Today) (hs : ℕ → Held) (s₀ ws was : List ℕ) (i : ℕ) (s : List ℕ) (at : Pair) (count : ℕ) (gets gives : List ℤ) (payments : List ℕ) : Type 0 where
  pub walked : Walked n see hs s₀ ws i s
  pub sums : ℕ → ℤ
  pub done : List Payment
  pub comes_to : (k : ℕ) → k < cs → int_wrap w64 (net_of gets gives k) ≡ int_wrap w64 (sums k)
  pub paid : Written was done count payments
  pub small : at.high < 65536
  pub total : grouped cs (owing see hs ws) ≡ done ++ map written (paired cs at.low at.high sums (owing see hs (drop i ws)))
  pub whole : AllByRecursion Whole (paired cs at.low at.high sums (owing see hs (drop i ws)))

module _ (t n cs : ℕ) (see : ℕ → Today) (hs : ℕ → Held) (s₀ ws was : List ℕ) (ready : Ready t n cs see hs s₀ ws (length was)) where
  -- nothing has come together yet
  pub walking_start : Walking n cs see hs s₀ ws was 0 s₀ (record { low = 0; high = 0 }) 0 (replicate cs (pos 0)) (replicate cs (pos 0)) was
  unfolding grouped
  walking_start =
      record {
        walked = walked_none n see hs s₀ ws;
        sums = λ k. pos 0;
        done = [];
        comes_to = λ k lt. ap (int_wrap w64) (omega (arith, ints, get_or-replicate cs k (pos 0) (pos 0) lt));
        paid = written_start was;
        small = omega arith;
        total = refl;
        whole = ready.whole;
      }

  -- what is still to be paid of the pair fits 64 bits, and there is room for it
  module _ (i : ℕ) (s : List ℕ) (at : Pair) (count : ℕ) (gets gives : List ℤ) (payments : List ℕ) (w : Walking n cs see hs s₀ ws was i s at count gets gives payments) (long-gets : length gets ≡ cs)
      (rest : List Line) (is : paired cs at.low at.high w.sums (owing see hs (drop i ws)) ≡ pair_lines cs at.low at.high w.sums ++ rest) where
    exact : (k : ℕ) → k < length gets → int_wrap w64 (net_of gets gives k) ≡ w.sums k
    exact k lt =
        w.comes_to k (omega arith)
        ∙ int_wrap_fits w64 (w.sums k)
        (pair_whole cs at.low at.high w.sums (all_left Whole (pair_lines cs at.low at.high w.sums) rest (subst (AllByRecursion Whole) is w.whole)) k (omega arith))

    split : grouped cs (owing see hs ws) ≡ (w.done ++ pair_payments cs at.low at.high w.sums) ++ map written rest
    unfolding pair_payments
    split =
        w.total
        ∙ ap (λ z. w.done ++ map written z) is
        ∙ ap (λ z. w.done ++ z) (map-append written (pair_lines cs at.low at.high w.sums) rest)
        ∙ sym (append_assoc w.done (map written (pair_lines cs at.low at.high w.sums)) (map written rest))

    room : 13 * count + 13 * length (pair_payments cs at.low at.high w.sums) ≤ length was
    room =
        let many : length (grouped cs (owing see hs ws)) ≡ length ((w.done ++ pair_payments cs at.low at.high w.sums) ++ map written rest) = ap length split in
        omega (arith, ready.fits, many, w.paid.count, length-append (w.done ++ pair_payments cs at.low at.high w.sums) (map written rest), length-append w.done (pair_payments cs at.low at.high w.sums))

    pub record PairDone (count' : ℕ) (gets' gives' : List ℤ) (payments' : List ℕ) : Type 0 where
      pub paid_more : Written was (w.done ++ pair_payments cs at.low at.high w.sums) count' payments'
      pub no_gets : (k : ℕ) → k < length gets' → get_or gets' k (pos 0) ≡ pos 0
      pub no_gives : (k : ℕ) → k < length gives' → get_or gives' k (pos 0) ≡ pos 0
      pub total_is : grouped cs (owing see hs ws) ≡ (w.done ++ pair_payments cs at.low at.high w.sums) ++ map written rest

    pub pair_done : (count' : ℕ) (gets' gives' : List ℤ) (payments' : List ℕ) → PaysPair at.low at.high count gets gives payments count' gets' gives' payments' → PairDone count' gets' gives' payments'
    pair_done count' gets' gives' payments' pays =
        let p = pays was w.done w.sums w.paid exact (subst (λ z. 13 * count + 13 * length (pair_payments z at.low at.high w.sums) ≤ length was) (sym long-gets) room) in
        record {
          paid_more = subst (λ z. Written was (w.done ++ pair_payments z at.low at.high w.sums) count' payments') long-gets p.written_all;
          no_gets = p.gets;
          no_gives = p.gives;
          total_is = split;
        }

  -- a deal's pair as its word has it
  small_low : (a b : ℕ) → a < 65536 → b < 65536 → smaller a b < 65536
  small_low a b h g = grind (arith, nat_tests)

  small_high : (a b : ℕ) → a < 65536 → b < 65536 → larger a b < 65536
  small_high a b h g = grind (arith, nat_tests)

  -- one word more: what the pair before has come to was paid, if the next is another
  module _ (i : ℕ) (lt : i < length ws) (s : List ℕ) (at : Pair) (count : ℕ) (gets gives : List ℤ) (payments : List ℕ) (w : Walking n cs see hs s₀ ws was i s at count gets gives payments) (long-gets : length gets ≡ cs)
      (count' : ℕ) (gets' gives' : List ℤ) (payments' : List ℕ) (long-gets' : length gets' ≡ cs) (long-gives' : length gives' ≡ cs) (s'' : List ℕ) (gets'' gives'' : List ℤ) (same : length s'' ≡ length s)
      (netted : Netted t (number_in (get_or ws i 0)) s gets' gives' s'' gets'' gives'') where
    abbrev pub next : Pair
    next = word_pair (get_or ws i 0)

    owes : Owes
    owes = owes_step (see (number_in (get_or ws i 0))) (hs (number_in (get_or ws i 0)))

    rest : List Owes
    rest = owing see hs (drop (i + 1) ws)

    ahead : owing see hs (drop i ws) ≡ owes ∷ rest
    unfolding owing owes rest
    ahead = ap (map (λ z. owes_step (see (number_in z)) (hs (number_in z)))) (drop_more ws i 0 lt)

    below : number_in (get_or ws i 0) < n
    below = ready.deals i lt

    low_small : low_of owes < 65536
    unfolding low_of owes owes_step
    low_small = small_low (hs (number_in (get_or ws i 0))).holder (hs (number_in (get_or ws i 0))).other (ready.holders (number_in (get_or ws i 0)) below) (ready.others (number_in (get_or ws i 0)) below)

    high_small : high_of owes < 65536
    unfolding high_of owes owes_step
    high_small = small_high (hs (number_in (get_or ws i 0))).holder (hs (number_in (get_or ws i 0))).other (ready.holders (number_in (get_or ws i 0)) below) (ready.others (number_in (get_or ws i 0)) below)

    pair_is : low_of owes * 65536 + high_of owes ≡ pair_in (get_or ws i 0)
    unfolding pair_of owes
    pair_is = ready.pairs i lt

    low_is : next.low ≡ low_of owes
    low_is = omega (arith, pair_is, low_small, high_small)

    high_is : next.high ≡ high_of owes
    high_is = omega (arith, pair_is, low_small, high_small)

    step : (k : ℕ) → k < cs → int_wrap w64 (net_of gets'' gives'' k) ≡ int_wrap w64 (net_of gets' gives' k +ℤ adds owes k)
    unfolding owes
    step k in-cs = (net_one t n cs see hs s₀ ws (length was) ready i lt s s'' same gets' gives' gets'' gives'' netted w.walked).paid k (omega arith) (omega arith)

    on : Walked n see hs s₀ ws (i + 1) s''
    on = walked_more t n cs see hs s₀ ws (length was) ready i lt s s'' same gets' gives' gets'' gives'' netted w.walked

    -- of the same pair
    pub same_pair : next ≡ at → count' ≡ count → gets' ≡ gets → gives' ≡ gives → payments' ≡ payments → Walking n cs see hs s₀ ws was (i + 1) s'' next count' gets'' gives'' payments'
    unfolding paired pair_of rest
    same_pair is count-is gets-are gives-are payments-are =
        let low : at.low ≡ low_of owes = ap (λ z. z.low) (sym is) ∙ low_is in
        let high : at.high ≡ high_of owes = ap (λ z. z.high) (sym is) ∙ high_is in
        let sums' : ℕ → ℤ = λ k. w.sums k +ℤ adds owes k in
        let goes : paired cs at.low at.high w.sums (owing see hs (drop i ws)) ≡ paired cs at.low at.high sums' rest =
        ap (paired cs at.low at.high w.sums) ahead
        ∙ ap (λ b. pick b (paired cs at.low at.high sums' rest) (pair_lines cs at.low at.high w.sums ++ paired cs (low_of owes) (high_of owes) (adds owes) rest))
        (eq-eqb (pair at.low at.high) (pair (low_of owes) (high_of owes)) (omega (arith, low, high))) in
        subst (λ z. Walking n cs see hs s₀ ws was (i + 1) s'' z count' gets'' gives'' payments') (sym is)
        (record {
          walked = on;
          sums = sums';
          done = w.done;
          comes_to = λ k in-cs.
              step k in-cs
              ∙ ap (λ z. int_wrap w64 (z +ℤ adds owes k)) (ap (λ z. net_of z gives' k) gets-are ∙ ap (λ z. net_of gets z k) gives-are)
              ∙ int_wrap-add_same w64 (net_of gets gives k) (w.sums k) (adds owes k) (w.comes_to k in-cs);
          paid = rw (count-is, payments-are) w.paid;
          small = w.small;
          total = w.total ∙ ap (λ z. w.done ++ map written z) goes;
          whole = subst (AllByRecursion Whole) goes w.whole;
        })

    -- of another
    pub other_pair : next ≢ at → PaysPair at.low at.high count gets gives payments count' gets' gives' payments' → Walking n cs see hs s₀ ws was (i + 1) s'' next count' gets'' gives'' payments'
    unfolding paired pair_of rest
    other_pair ne pays =
        let apart : low_of owes ≡ at.low → high_of owes ≡ at.high → ⊥ = λ low high. ne (λ k. record { low = (low_is ∙ low) k; high = (high_is ∙ high) k }) in
        let more = paired cs (low_of owes) (high_of owes) (adds owes) rest in
        let goes : paired cs at.low at.high w.sums (owing see hs (drop i ws)) ≡ pair_lines cs at.low at.high w.sums ++ more =
        ap (paired cs at.low at.high w.sums) ahead
        ∙ ap (λ b. pick b (paired cs at.low at.high (λ k. w.sums k +ℤ adds owes k) rest) (pair_lines cs at.low at.high w.sums ++ more))
        (ne_eqb (pair at.low at.high) (pair (low_of owes) (high_of owes)) (λ e. apart (omega (arith, high_small, w.small, e)) (omega (arith, high_small, w.small, e)))) in
        let p = pair_done i s at count gets gives payments w long-gets more goes count' gets' gives' payments' pays in
        let as_at : more ≡ paired cs next.low next.high (adds owes) rest =
        ap (λ z. paired cs z (high_of owes) (adds owes) rest) (sym low_is) ∙ ap (λ z. paired cs next.low z (adds owes) rest) (sym high_is) in
        record {
          walked = on;
          sums = adds owes;
          done = w.done ++ pair_payments cs at.low at.high w.sums;
          comes_to = λ k in-cs. step k in-cs ∙ ap (int_wrap w64) (omega (arith, ints, p.no_gets k (omega arith), p.no_gives k (omega arith)));
          paid = p.paid_more;
          small = omega (arith, high_is, high_small);
          total = p.total_is ∙ ap (λ z. (w.done ++ pair_payments cs at.low at.high w.sums) ++ map written z) as_at;
          whole = subst (AllByRecursion Whole) as_at (all_right Whole (pair_lines cs at.low at.high w.sums) more (subst (AllByRecursion Whole) goes w.whole));
        }

  -- behind the last word
  pub walking_end : (i : ℕ) (s : List ℕ) (at : Pair) (count : ℕ) (gets gives : List ℤ) (payments : List ℕ) (count' : ℕ) (gets' gives' : List ℤ) (payments' : List ℕ) → i ≡ length ws → length gets ≡ cs →
      PaysPair at.low at.high count gets gives payments count' gets' gives' payments' → Walking n cs see hs s₀ ws was i s at count gets gives payments → AllWalked n cs see hs s₀ ws was count' s payments'
  unfolding paired owing
  walking_end i s at count gets gives payments count' gets' gives' payments' all long-gets pays w =
      let none : paired cs at.low at.high w.sums (owing see hs (drop i ws)) ≡ pair_lines cs at.low at.high w.sums ++ [] =
      ap (λ z. paired cs at.low at.high w.sums (owing see hs z)) (drop_all i ws (omega arith)) ∙ sym (append-nil (pair_lines cs at.low at.high w.sums)) in
      let p = pair_done i s at count gets gives payments w long-gets [] none count' gets' gives' payments' pays in
      record {
        walked = subst (λ z. Walked n see hs s₀ ws z s) all w.walked;
        paid = subst (λ z. Written was z count' payments') (sym (p.total_is ∙ append-nil (w.done ++ pair_payments cs at.low at.high w.sums))) p.paid_more;
      }
