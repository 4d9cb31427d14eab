-- What is paid by the keys of all deals is what the meaning says.
use Rattle.std.proofs.Common.{◌≡◌, ℕ, zero, suc, ◌+◌, ◌-◌, ◌*◌, ◌/◌, ◌%◌, ◌<◌, ◌≤◌, Bool, true, false, ◌&&◌, eqb, List, [], ◌∷◌, map, length, get_or, ℤ, pos, ◌+ℤ◌, neg_ℤ, filter, sym, refl, ap, ◌∙◌, subst, ap₂, add-one, arith}
use lib.IntN.{+ℤ_idl}
use Rattle.std.specs.List.{range_with_len, AllByRecursion}
use Rattle.std.specs.List.Sorted.{IsPermutation, IsNonDecreasingBy, IsNonDecreasing}
use Rattle.std.proofs.ByRecursion.{All-get_or, all_shuffled}
use Rattle.std.proofs.lemmas.List.{length-map, get_or-map}
use Rattle.std.proofs.lemmas.List.Sorted.{length_permutation}
use Rattle.deals.specs.Contract.{Day, Deal, Flow, larger, pick, flows, on_that_day, owed}
use Rattle.deals.specs.Promise.{size, all_of, ContractFits}
use Rattle.deals.specs.Residual.{come_to}
use Rattle.deals.specs.House.{Owes, House, one_between, come_between, pays_now}
use Rattle.deals.specs.Lines.{pair, all_lines}
use Rattle.deals.specs.Sleep.{smaller}
use Rattle.deals.specs.Payments.{written, payments, low_of, high_of, pair_of, paired, grouped, nobody, deals_at, Between}
use Rattle.deals.proofs.Morning.{shuffled_map}
use Rattle.deals.proofs.Payments.{paired_is_paid_lem}
use Rattle.deals.proofs.Sizes.{size_is, size_add, flows_size, RatesSmall}
use Rattle.replay.specs.declared.dues.Due.{Due}
use Rattle.replay.specs.declared.listing.DealIn.{DealIn}
use Rattle.replay.specs.Meaning.{dues_on, due_of, as_due}
use Rattle.replay.specs.Order.{pair_in, key_of, keys_from}
use Rattle.mornings.specs.Pairs.{as_bytes}
use Rattle.replay.specs.Settle.{owed_by, grouped_payments}
use Rattle.replay.proofs.OnDay.{moves_below}

-- WHAT EACH DEAL COMES TO

abbrev pub owe : List Day → ℕ → Deal → Owes
owe ds c d = record { holder = d.holder; other = d.other; now = map as_due (dues_on (length ds - 1) (flows ds c [] d.contract d.from)) }

unfoldable pub owes_of : List Day → ℕ → List Deal → List Owes
owes_of ds c [] = []
owes_of ds c (d ∷ dd) = owe ds c d ∷ owes_of ds (suc c) dd

pub owes_long : (ds : List Day) (c : ℕ) (dd : List Deal) → length (owes_of ds c dd) ≡ length dd
unfolding owes_of
owes_long ds c [] = refl
owes_long ds c (d ∷ dd) = ap suc (owes_long ds (suc c) dd)

owes_from : (ds : List Day) (a c : ℕ) (dd : List Deal) (d : Deal) → c < length dd → get_or (owes_of ds a dd) c nobody ≡ owe ds (a + c) (get_or dd c d)
unfolding owes_of
owes_from ds a c [] d lt = absurd (omega arith)
owes_from ds a zero (e ∷ dd) d lt = ap (λ n. owe ds n e) (omega arith)
owes_from ds a (suc c) (e ∷ dd) d lt = owes_from ds (suc a) c dd d (omega arith) ∙ ap (λ n. owe ds n (get_or dd c d)) (omega arith)

pub owes_at : (ds : List Day) (c : ℕ) (dd : List Deal) (d : Deal) → c < length dd → get_or (owes_of ds 0 dd) c nobody ≡ owe ds c (get_or dd c d)
owes_at ds c dd d lt = owes_from ds 0 c dd d lt ∙ ap (λ n. owe ds n (get_or dd c d)) (omega arith)

come_pick : (b : Bool) (k : ℕ) (f : Flow) (rest : List Due) (r : ℤ) → come_to k (map as_due rest) ≡ r →
    come_to k (map as_due (pick b (due_of f ∷ rest) rest)) ≡ pick (b && eqb f.currency k) f.amount (pos 0) +ℤ r
unfolding come_to
come_pick true k f rest r e = ap (λ z. pick (eqb f.currency k) f.amount (pos 0) +ℤ z) e
come_pick false k f rest r e = e ∙ sym (+ℤ_idl r)

pub come_dues : (u k : ℕ) (fs : List Flow) → come_to k (map as_due (dues_on u fs)) ≡ on_that_day u k fs
unfolding dues_on on_that_day come_to
come_dues u k [] = refl
come_dues u k (f ∷ fs) = come_pick (eqb f.on u) k f (dues_on u fs) (on_that_day u k fs) (come_dues u k fs)

pub between_is : (ds : List Day) (k a b c : ℕ) (dd : List Deal) → come_between k a b (owes_of ds c dd) ≡ owed ds (length ds - 1) k a b c dd
unfolding owes_of come_between one_between owed
between_is ds k a b c [] = refl
between_is ds k a b c (d ∷ dd) =
    ap₂ (λ v r. pick (eqb d.other a && eqb d.holder b) v (pick (eqb d.holder a && eqb d.other b) (neg_ℤ v) (pos 0)) +ℤ r)
    (come_dues (length ds - 1) k (flows ds c [] d.contract d.from)) (between_is ds k a b (suc c) dd)

-- SIZES

pick_size : (b c : Bool) (a : ℤ) → size (pick (b && c) a (pos 0)) ≤ pick c (size a) 0
pick_size true true a = omega arith
pick_size true false a = omega (arith, size_is (pos 0))
pick_size false true a = omega (arith, size_is (pos 0))
pick_size false false a = omega (arith, size_is (pos 0))

day_size : (u k : ℕ) (fs : List Flow) → size (on_that_day u k fs) ≤ all_of k fs
unfolding on_that_day all_of
day_size u k [] = omega (arith, size_is (pos 0))
day_size u k (f ∷ fs) =
    omega (arith, size_add (pick (eqb f.on u && eqb f.currency k) f.amount (pos 0)) (on_that_day u k fs), pick_size (eqb f.on u) (eqb f.currency k) f.amount, day_size u k fs)

pub owe_size : (rs cs : ℕ) (ds : List Day) (c k : ℕ) (d : Deal) → RatesSmall ds → length ds ≤ 65536 → ContractFits rs cs d.contract → size (come_to k (owe ds c d).now) ≤ 1099511627776
unfolding ContractFits
owe_size rs cs ds c k d small early f =
    omega (
      arith,
      ap size (come_dues (length ds - 1) k (flows ds c [] d.contract d.from)),
      day_size (length ds - 1) k (flows ds c [] d.contract d.from),
      flows_size k ds c small early d.contract [] d.from,
      moves_below rs cs d.contract f.0,
    )

-- IN ORDER

kept_all : (xs : List ℕ) → filter (λ c. true) xs ≡ xs
kept_all [] = refl
kept_all (x ∷ xs) = ap (λ z. x ∷ z) (kept_all xs)

module _ (due : List Owes) (deals : List DealIn) (many : length due ≡ length deals) (few : length deals ≤ 65536) where
  abbrev pr : ℕ → ℕ
  pr c = pair_of (get_or due c nobody)

  abbrev word : ℕ → ℕ
  word c = 65536 * pr c + c

  keys_are : (a : ℕ) (xs : List DealIn) → ((j : ℕ) (d : DealIn) → j < length xs → pair_in (get_or xs j d) ≡ pr (a + j)) → keys_from a xs ≡ map word (range_with_len a (length xs))
  unfolding keys_from key_of
  keys_are a [] h = refl
  keys_are a (x ∷ xs) h =
      let here : a + 0 ≡ a = omega arith in
      let first : pair_in x ≡ pr a = h 0 x (omega arith) ∙ ap pr here in
      ap₂ ◌∷◌ (ap (λ q. 65536 * q + a) first)
      (rw (add-one a) (keys_are (suc a) xs (λ j d lt. let next : a + suc j ≡ suc a + j = omega arith in h (suc j) d (omega arith) ∙ ap pr next)))

  numbers_back : (cs : List ℕ) → AllByRecursion (λ c. c < 65536) cs → map (λ w. w % 65536) (map word cs) ≡ cs
  numbers_back [] f = refl
  numbers_back (c ∷ cs) f = ap₂ ◌∷◌ (omega (arith, f.0)) (numbers_back cs f.1)

  abbrev Good : ℕ → Type 0
  Good w = (w % 65536 < length deals) × (pr (w % 65536) ≡ w / 65536)

  words_good : (cs : List ℕ) → AllByRecursion (λ c. c < length deals) cs → AllByRecursion Good (map word cs)
  words_good [] f = tt
  words_good (c ∷ cs) f =
      let same : (65536 * pr c + c) % 65536 ≡ c = omega (arith, f.0) in
      let front : pr c ≡ (65536 * pr c + c) / 65536 = omega (arith, f.0) in
      ((omega (arith, same, f.0), ap pr same ∙ front), words_good cs f.1)

  below_all : (P : ℕ → Type 0) → ((c : ℕ) → c < length deals → P c) → AllByRecursion P (range_with_len 0 (length deals))
  below_all P h = from 0 (length deals) (λ c le lt. h c (omega arith))
    where
      from : (a n : ℕ) → ((c : ℕ) → a ≤ c → c < a + n → P c) → AllByRecursion P (range_with_len a n)
      from a zero g = tt
      from a (suc n) g = (g a (omega arith) (omega arith), from (a + 1) n (λ c le lt. g c (omega arith) (omega arith)))

  module _ (keys : List ℕ) (pairs : (j : ℕ) (d : DealIn) → j < length deals → pair_in (get_or deals j d) ≡ pr j) (same : IsPermutation (keys_from 0 deals) keys) where
    words : IsPermutation (map word (range_with_len 0 (length deals))) keys
    words = subst (λ z. IsPermutation z keys) (keys_are 0 deals (λ j d lt. let zero_more : j ≡ 0 + j = omega arith in pairs j d lt ∙ ap pr zero_more)) same

    pub keys_good : AllByRecursion Good keys
    keys_good = all_shuffled Good (map word (range_with_len 0 (length deals))) keys words (words_good (range_with_len 0 (length deals)) (below_all (λ c. c < length deals) (λ c lt. lt)))

    pub keys_long : length keys ≡ length deals
    keys_long = length_permutation (map word (range_with_len 0 (length deals))) keys words ∙ length-map (range_with_len 0 (length deals)) word ∙ count_long 0 (length deals)
      where
        count_long : (a n : ℕ) → length (range_with_len a n) ≡ n
        count_long a zero = refl
        count_long a (suc n) = ap suc (count_long (a + 1) n)

    pub order_same : IsPermutation (range_with_len 0 (length deals)) (map (λ w. w % 65536) keys)
    order_same =
        subst (λ z. IsPermutation z (map (λ w. w % 65536) keys)) (numbers_back (range_with_len 0 (length deals)) (below_all (λ c. c < 65536) (λ c lt. omega arith)))
        (shuffled_map (λ w. w % 65536) (map word (range_with_len 0 (length deals))) keys words)

    pub order_rises : IsNonDecreasing keys → IsNonDecreasingBy pr (map (λ w. w % 65536) keys)
    order_rises up i j d l n =
        let long = length-map keys (λ w. w % 65536) in
        let a = get_or-map (λ w. w % 65536) keys i 0 d (omega arith) in
        let b = get_or-map (λ w. w % 65536) keys j 0 d (omega arith) in
        let p = All-get_or Good keys i 0 (omega arith) keys_good in
        let q = All-get_or Good keys j 0 (omega arith) keys_good in
        let x : pr (get_or (map (λ w. w % 65536) keys) i d) ≡ get_or keys i 0 / 65536 = ap pr a ∙ p.1 in
        let y : pr (get_or (map (λ w. w % 65536) keys) j d) ≡ get_or keys j 0 / 65536 = ap pr b ∙ q.1 in
        omega (arith, x, y, up i j 0 l (omega arith))

-- ALL OF IT

map_map : {A B C : Type 0} (g : B → C) (f : A → B) (xs : List A) → map g (map f xs) ≡ map (λ x. g (f x)) xs
map_map g f [] = refl
map_map g f (x ∷ xs) = ap (λ z. g (f x) ∷ z) (map_map g f xs)

pub paid_is_net : (ps cs : ℕ) (f : ℕ → ℕ → ℕ → ℤ) (due : List Owes) (keys : List ℕ) → ps ≤ 1024 → cs ≤ 64 → AllByRecursion (Between ps) due → ((a b k : ℕ) → come_between k a b due ≡ f a b k) →
    IsPermutation (range_with_len 0 (length due)) (map (λ w. w % 65536) keys) → IsNonDecreasingBy (λ c. pair_of (get_or due c nobody)) (map (λ w. w % 65536) keys) →
    grouped_payments cs (owed_by due keys) ≡ map (λ l. as_bytes (written l)) (all_lines ps cs f)
unfolding grouped_payments owed_by grouped payments deals_at pays_now
paid_is_net ps cs f due keys few coins between is same up =
    let h : House = record { houses = ps; rates = 0; currencies = cs; number = 0; ring = []; held = []; due = due } in
    let order = map (λ w. w % 65536) keys in
    let paid = paired_is_paid_lem h (λ c. true) order few coins between (λ c lt e. absurd (never e)) (subst (λ z. IsPermutation z order) (sym (kept_all (range_with_len 0 (length due)))) same) up in
    let at : map (λ c. get_or due c nobody) order ≡ map (λ w. get_or due (w % 65536) nobody) keys = map_map (λ c. get_or due c nobody) (λ w. w % 65536) keys in
    sym (map_map as_bytes written (paired cs 0 0 (λ k. pos 0) (map (λ w. get_or due (w % 65536) nobody) keys))) ∙ ap (λ os. map as_bytes (map written (paired cs 0 0 (λ k. pos 0) os))) (sym at)
    ∙ ap (map as_bytes) paid ∙ map_map as_bytes written (all_lines ps cs (λ a b k. come_between k a b due))
    ∙ ap (λ g. map (λ l. as_bytes (written l)) (all_lines ps cs g)) (λ i a b k. is a b k i)
  where
    never : true ≡ false → ⊥
    never e = grind arith

pub pair_same : (y : DealIn) (o : Owes) → y.at.holder ≡ o.holder → y.at.other ≡ o.other → pair_in y ≡ pair_of o
unfolding pair_in pair_of low_of high_of
pair_same y o h g = ap₂ (λ a b. pair (smaller a b) (larger a b)) h g
