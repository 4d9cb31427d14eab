-- The deals that wake, in the order of their pairs, are all that a morning needs to look at.
use Rattle.std.proofs.Common.{◌≡◌, ℕ, zero, suc, ◌+◌, ◌*◌, ◌/◌, ◌%◌, ◌<◌, ◌≤◌, Bool, true, false, cond, ◌&&◌, eqb, ◌≢◌, List, [], ◌∷◌, map, length, get_or, take, ℤ, pos, negsuc, filter, sym, refl, ap, ◌∙◌, subst, ap₂, ⊎_elim, arith, w64, SFits}
use lib.Signed.{lt_z}
use Rattle.std.specs.List.{range_with_len, AllByRecursion}
use Rattle.std.specs.List.Sorted.{IsPermutation, IsNonDecreasing}
use Rattle.std.proofs.ByRecursion.{All-get_or, All-weaker, all_kept_by, all_shuffled}
use Rattle.std.proofs.lemmas.List.Sorted.{sum_by-IsPermutation}
use Rattle.std.proofs.lemmas.List.{take_all}
use Rattle.std.proofs.lemmas.List.Sums.{sum_by-cons}
use Rattle.std.proofs.lemmas.Bool.Decides.{nat_tests}
use Rattle.std.proofs.lemmas.Bool.{cases_Bool, cases_eq, cases_lt, eq-eqb, ne_eqb, lt-ltb, leb-false}
use Rattle.deals.specs.Contract.{Morning, pick}
use Rattle.deals.specs.Promise.{size}
use Rattle.deals.specs.Residual.{Waits, starts, first_true, by_choice, Today}
use Rattle.deals.specs.Shared.{Slot, shared_steps}
use Rattle.deals.specs.House.{House, seen, sees, held_step, owes_step, happens}
use Rattle.deals.specs.Kept.{Roomy}
use Rattle.deals.specs.Lines.{Line}
use Rattle.deals.specs.Sleep.{wake, row_wake, row_sleeps, sleeps, smaller}
use Rattle.deals.specs.Payments.{Between, TruePayment, written, payments, low_of, high_of, pair_of, paired, grouped, nobody, gone, deals_today, owes_today, Skips, DoneInOrder, word_of, words_of, numbers_in}
use Rattle.deals.proofs.Sleep.{sleeping}
use Rattle.deals.proofs.Morning.{due_many, due_is, morning_by_words}
use Rattle.deals.proofs.Payments.{payments_in_order_lem, counting_below}
use Rattle.deals.proofs.Sizes.{size_is}
use Rattle.residual.specs.Layout.{row_at}
use Rattle.residual.specs.Deal.{Awaited, Rows}
use Rattle.settlement.specs.Directory.{entry_of, part_of}
use Rattle.settlement.specs.Keeping.{Keeps, RoomyAfter}
use Rattle.settlement.specs.Paying.{Written}
use Rattle.settlement.specs.Order.{entry_pair, word_at, wakes_at, words_waking}
use Rattle.settlement.specs.Walk.{number_in, times, owing, Ready, AllWalked}
use Rattle.settlement.specs.Settled.{KeptToday, Bounded, Settled}
use Rattle.settlement.proofs.Words.{keeps_moved}

-- A DEAL THAT SLEEPS

smaller_least : (a b : ℕ) → (smaller a b ≤ a) × (smaller a b ≤ b)
smaller_least a b = (grind (arith, nat_tests), grind (arith, nat_tests))

-- rows that all wait for a day to come
rows_sleep : (s : List ℕ) (k : ℕ) (slots : List Slot) (n : Today) → Rows s k slots → n.number < wake slots → sleeps n slots ≡ true
unfolding Rows wake sleeps row_wake row_sleeps
rows_sleep s k [] n h early = refl
rows_sleep s k (q ∷ rest) n (a, w, h) early = one q.waits w early (rows_sleep s (k + 1) rest n h)
  where
    one : (v : Waits) → Awaited s (row_at s k) v → n.number < smaller (row_wake v) (wake rest) → (n.number < wake rest → sleeps n rest ≡ true) → (row_sleeps n q.way v && sleeps n rest) ≡ true
    one (starts d x) w early then =
        let least = smaller_least d (wake rest) in rw (lt-ltb n.number d (omega (arith, least.0)), then (omega (arith, least.1)))
    one (first_true e x) w early then = absurd w
    one (by_choice d x) w early then = absurd w

-- HOW OFTEN A DEAL IS AMONG THE WORDS

-- one word more
times_cons : (c w : ℕ) (ws : List ℕ) → times c (w ∷ ws) ≡ pick (eqb (number_in w) c) 1 0 + times c ws
unfolding times
times_cons c w ws = sum_by-cons (λ v. pick (eqb (number_in v) c) 1 0) w ws

number_at : (s : List ℕ) (c : ℕ) → c < 65536 → number_in (word_at s c) ≡ c
unfolding word_at
number_at s c lt = omega arith

words_from : ℕ → List ℕ → ℕ → ℕ → List ℕ
words_from t s a n = map (word_at s) (filter (wakes_at t s) (range_with_len a n))

step_times : (t : ℕ) (s : List ℕ) (c a : ℕ) (ws : List ℕ) → a < 65536 → c ≢ a → times c (map (word_at s) (cond (wakes_at t s a) (a ∷ ws) ws)) ≡ times c (map (word_at s) ws)
step_times t s c a ws small ne =
    ⊎_elim
    (λ e. rw e (times_cons c (word_at s a) (map (word_at s) ws) ∙ ap (λ b. pick b 1 0 + times c (map (word_at s) ws)) (ne_eqb (number_in (word_at s a)) c (λ is. ne (sym is ∙ number_at s a small))) ∙ omega arith))
    (λ e. rw e) (cases_Bool (wakes_at t s a))

times_before : (t : ℕ) (s : List ℕ) (c a n : ℕ) → a + n ≤ 65536 → c < a → times c (words_from t s a n) ≡ 0
unfolding words_from times
times_before t s c a zero few lt = refl
times_before t s c a (suc n) few lt = step_times t s c a (filter (wakes_at t s) (range_with_len (a + 1) n)) (omega arith) (omega arith) ∙ times_before t s c (a + 1) n (omega arith) (omega arith)

times_from : (t : ℕ) (s : List ℕ) (c a n : ℕ) → a + n ≤ 65536 → a ≤ c → c < a + n → times c (words_from t s a n) ≡ pick (wakes_at t s c) 1 0
unfolding words_from
times_from t s c a zero few ge lt = absurd (omega arith)
times_from t s c a (suc n) few ge lt =
    ⊎_elim
    (λ is.
    subst (λ z. times c (map (word_at s) (cond (wakes_at t s z) (z ∷ filter (wakes_at t s) (range_with_len (a + 1) n)) (filter (wakes_at t s) (range_with_len (a + 1) n)))) ≡ pick (wakes_at t s c) 1 0) is
    (here (wakes_at t s c) (filter (wakes_at t s) (range_with_len (a + 1) n)) (times_before t s c (a + 1) n (omega arith) (omega arith))))
    (λ ne. step_times t s c a (filter (wakes_at t s) (range_with_len (a + 1) n)) (omega arith) ne ∙ times_from t s c (a + 1) n (omega arith) (omega arith) (omega arith)) (cases_eq c a)
  where
    here : (b : Bool) (ws : List ℕ) → times c (map (word_at s) ws) ≡ 0 → times c (map (word_at s) (cond b (c ∷ ws) ws)) ≡ pick b 1 0
    here true ws none = times_cons c (word_at s c) (map (word_at s) ws) ∙ ap (λ b. pick b 1 0 + times c (map (word_at s) ws)) (eq-eqb (number_in (word_at s c)) c (number_at s c (omega arith))) ∙ omega (arith, none)
    here false ws none = none

times_past : (t : ℕ) (s : List ℕ) (c a n : ℕ) → a + n ≤ 65536 → a + n ≤ c → times c (words_from t s a n) ≡ 0
unfolding words_from times
times_past t s c a zero few ge = refl
times_past t s c a (suc n) few ge = step_times t s c a (filter (wakes_at t s) (range_with_len (a + 1) n)) (omega arith) (omega arith) ∙ times_past t s c (a + 1) n (omega arith) (omega arith)

one_or_none : (b : Bool) → pick b 1 0 ≤ 1
one_or_none true = omega arith
one_or_none false = omega arith

-- words in another order
times_shuffled : (c : ℕ) (xs ys : List ℕ) → IsPermutation xs ys → times c ys ≡ times c xs
unfolding times
times_shuffled c xs ys h = sum_by-IsPermutation (λ w. pick (eqb (number_in w) c) 1 0) xs ys h

-- PAYMENTS THAT ARE SHORT HAVE LINES THAT ARE

amount_of : (l : Line) → (written l).amount ≡ size l.total
unfolding written
amount_of l = ⊎_elim (λ e. rw e) (λ e. rw e) (cases_Bool (lt_z l.total (pos 0)))

short_whole : (v : ℤ) → size v < 4611686018427387904 → SFits w64 v
short_whole (pos n) h = omega (arith, h, size_is (pos n))
short_whole (negsuc n) h = omega (arith, h, size_is (negsuc n))

lines_whole : (ls : List Line) → AllByRecursion (λ p. p.amount < 4611686018427387904) (map written ls) → AllByRecursion (λ l. SFits w64 l.total) ls
lines_whole [] h = tt
lines_whole (l ∷ ls) (a, h) = (short_whole l.total (omega (arith, a, amount_of l)), lines_whole ls h)

-- what the words owe is what their deals owe
owing_is : (h : House) (m : Morning) (ws : List ℕ) → owing (sees h m) (λ c. get_or (deals_today h m) c gone) ws ≡ map (owes_today h m) (numbers_in ws)
unfolding owing numbers_in owes_today
owing_is h m [] = refl
owing_is h m (w ∷ ws) = ap (λ z. owes_step (sees h m (number_in w)) (get_or (deals_today h m) (number_in w) gone) ∷ z) (owing_is h m ws)

same_words : (s : List ℕ) (h : House) (m : Morning) (cs : List ℕ) → AllByRecursion (λ c. word_at s c ≡ word_of h m c) cs → map (word_at s) cs ≡ map (word_of h m) cs
same_words s h m [] f = refl
same_words s h m (c ∷ cs) (e, f) = ap₂ ◌∷◌ e (same_words s h m cs f)

all_map : {A B : Type 0} (f : A → B) (P : B → Type 0) (xs : List A) → AllByRecursion (λ x. P (f x)) xs → AllByRecursion P (map f xs)
all_map f P [] h = tt
all_map f P (x ∷ xs) (a, h) = (a, all_map f P xs h)

-- THE DEALS OF A MORNING
module _ (t n : ℕ) (s : List ℕ) (h : House) (m : Morning) (num : h.number ≡ t) (kept : KeptToday s n h m) (bounds : Bounded h m) (few : n ≤ 65536) where
  all_rows : (part : List ℕ) (slots : List Slot) → (0 < length slots → Rows part 0 slots) → Rows part 0 slots
  unfolding Rows
  all_rows part [] f = tt
  all_rows part (q ∷ rest) f = f (omega arith)

  -- those that don't wake may be skipped
  skips : Skips h m (wakes_at t s)
  unfolding wakes_at held_step owes_today owes_step sees seen
  skips c below e =
      let k = kept.keeps c (omega (arith, kept.many)) in
      let slots = (get_or (deals_today h m) c gone).slots in
      let later : t < wake slots = subst (λ z. t < z) k.left.wake_is (leb-false (entry_of s c).kept.wake t e) in
      let day : (sees h m c).number ≡ t = num in
      let asleep = rows_sleep (part_of s c) 0 slots (sees h m c) (all_rows (part_of s c) slots (λ some. (k.left.stands some).rows)) (omega (arith, day)) in
      let same : shared_steps (sees h m c) slots (get_or (deals_today h m) c gone).entries ≡ record { now = []; entries = (get_or (deals_today h m) c gone).entries; slots = slots } =
      sleeping (sees h m c) slots (get_or (deals_today h m) c gone).entries asleep in
      (rw same, rw same)

  -- each word is the model's
  word_is : (c : ℕ) → c < n → word_at s c ≡ word_of h m c
  unfolding word_at word_of entry_pair pair_of low_of high_of owes_today owes_step
  word_is c below = let k = kept.keeps c below in rw (k.holder, k.other)

  words_are : words_waking t s n ≡ words_of h m (wakes_at t s)
  unfolding words_waking words_of
  words_are =
      same_words s h m (filter (wakes_at t s) (range_with_len 0 n))
      (all_kept_by (wakes_at t s) (λ c. word_at s c ≡ word_of h m c) (range_with_len 0 n)
      (All-weaker (λ c. c < 0 + n) (λ c. word_at s c ≡ word_of h m c) (λ c l. word_is c (omega arith)) (range_with_len 0 n) (counting_below 0 n)))
      ∙ ap (λ z. map (word_of h m) (filter (wakes_at t s) (range_with_len 0 z))) (sym kept.many)

  one_between : (c : ℕ) → c < n → Between h.houses (owes_today h m c)
  one_between c below =
      let lt : c < length (deals_today h m) = omega (arith, kept.many) in
      subst (Between h.houses) (due_is h m c lt) (All-get_or (Between h.houses) (happens h m).due c nobody (omega (arith, due_many h m)) bounds.between)

  amounts_short : AllByRecursion (λ p. p.amount < 4611686018427387904) (payments (happens h m))
  unfolding happens
  amounts_short =
      All-weaker (TruePayment (happens h m)) (λ p. p.amount < 4611686018427387904)
      (λ p true. let big = ap size true.owed ∙ size_is (pos p.amount) in omega (arith, big, bounds.short p.currency p.from p.to)) (payments (happens h m))
      (payments_in_order_lem (happens h m) bounds.houses bounds.currencies).true_each

  -- the words of the deals that wake, in order
  module _ (cs : ℕ) (cs-is : h.currencies ≡ cs) (ws : List ℕ) (same : IsPermutation (words_waking t s n) ws) (up : IsNonDecreasing ws) where
    by_words : DoneInOrder h m (wakes_at t s) (numbers_in ws) × AllByRecursion (λ w. pair_of (owes_today h m (w % 65536)) ≡ w / 65536) ws
    by_words =
        morning_by_words h m (wakes_at t s) ws bounds.houses bounds.currencies (omega (arith, kept.many)) bounds.between skips (subst (λ zs. IsPermutation zs ws) words_are same) up

    groups : grouped cs (owing (sees h m) (λ c. get_or (deals_today h m) c gone) ws) ≡ payments (happens h m)
    groups = ap (grouped cs) (owing_is h m ws) ∙ ap (λ z. grouped z (map (owes_today h m) (numbers_in ws))) (sym cs-is) ∙ by_words.0.pays

    roomy_after : (c : ℕ) → c < n → RoomyAfter (sees h m c) (get_or (deals_today h m) c gone)
    roomy_after c below =
        let lt : c < length (deals_today h m) = omega (arith, kept.many) in
        let room = subst Roomy (by_words.0.stepped c lt) (All-get_or Roomy (happens h m).held c gone (omega (arith, by_words.0.many)) bounds.roomy) in
        record { rows = omega (arith, room.few_rows); entries = room.few_entries }

    numbers_below : AllByRecursion (λ w. number_in w < n) ws
    unfolding words_waking
    numbers_below =
        all_shuffled (λ w. number_in w < n) (words_waking t s n) ws same
        (all_map (word_at s) (λ w. number_in w < n) (filter (wakes_at t s) (range_with_len 0 n))
        (all_kept_by (wakes_at t s) (λ c. number_in (word_at s c) < n) (range_with_len 0 n)
        (All-weaker (λ c. c < 0 + n) (λ c. number_in (word_at s c) < n) (λ c l. omega (arith, number_at s c (omega arith))) (range_with_len 0 n) (counting_below 0 n))))

    times_is : (c : ℕ) → c < n → times c ws ≡ pick (wakes_at t s c) 1 0
    unfolding words_waking words_from
    times_is c below = times_shuffled c (words_waking t s n) ws same ∙ times_from t s c 0 n (omega arith) (omega arith) (omega arith)

    times_most : (c : ℕ) → times c ws ≤ 1
    unfolding words_waking words_from
    times_most c =
        ⊎_elim (λ below. omega (arith, times_is c below, one_or_none (wakes_at t s c))) (λ past. omega (arith, times_shuffled c (words_waking t s n) ws same, times_past t s c 0 n (omega arith) (omega arith))) (cases_lt c n)

    pub ready : (room : ℕ) → 13 * length (payments (happens h m)) ≤ room → Ready t n cs (sees h m) (λ c. get_or (deals_today h m) c gone) s ws room
    unfolding sees seen grouped owes_today owes_step
    ready room fits =
        record {
          long = kept.long;
          keeps = kept.keeps;
          days = λ c. num;
          roomy = roomy_after;
          holders = λ c below. omega (arith, (one_between c below).holds, bounds.houses);
          others = λ c below. omega (arith, (one_between c below).owes, bounds.houses);
          apart = λ c below. (one_between c below).apart;
          deals = λ j lt. All-get_or (λ w. number_in w < n) ws j 0 lt numbers_below;
          pairs = λ j lt. All-get_or (λ w. pair_of (owes_today h m (w % 65536)) ≡ w / 65536) ws j 0 lt by_words.1;
          once = times_most;
          whole = lines_whole (paired cs 0 0 (λ k. pos 0) (owing (sees h m) (λ c. get_or (deals_today h m) c gone) ws)) (subst (AllByRecursion (λ p. p.amount < 4611686018427387904)) (sym groups) amounts_short);
          fits = rw groups fits;
        }

    -- what is kept and paid after the walk
    pub settled : (was : List ℕ) (r : ℕ) (s' payments' : List ℕ) → AllWalked n cs (sees h m) (λ c. get_or (deals_today h m) c gone) s ws was r s' payments' → Settled n h m was r s' payments'
    settled was r s' payments' w =
        record {
          keeps = λ c below.
              let lt : c < length (deals_today h m) = omega (arith, kept.many) in
              let all : take (length ws) ws ≡ ws = take_all (length ws) ws (omega arith) in
              ⊎_elim
              (λ (awake : wakes_at t s c ≡ true).
              let once : times c ws ≡ 1 = times_is c below ∙ ap {B = ℕ} (λ b. pick b 1 0) awake in
              let some : 0 < times c (take (length ws) ws) = rw all (omega (arith, once)) in
              subst (Keeps s' c) (sym (by_words.0.stepped c lt)) (w.walked.done c below some))
              (λ (asleep : wakes_at t s c ≡ false).
              let none : times c (take (length ws) ws) ≡ 0 = ap (times c) all ∙ times_is c below ∙ ap {B = ℕ} (λ b. pick b 1 0) asleep in
              subst (Keeps s' c) (sym (by_words.0.skipped c lt asleep))
              (keeps_moved s s' c (get_or (deals_today h m) c gone) (w.walked.parts c below none) (w.walked.entries c below none) (kept.keeps c below)))
              (cases_Bool (wakes_at t s c));
          paid = subst (λ z. Written was z r payments') groups w.paid;
        }
