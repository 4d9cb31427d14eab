-- Lent memory that stands for mornings, and what is then paid.
use Rattle.std.proofs.Common.{◌≡◌, ℕ, suc, ◌+◌, ◌-◌, ◌/◌, ◌%◌, ◌<◌, ◌≤◌, Bool, ◌≢◌, List, [], ◌∷◌, ◌++◌, map, length, get_or, take, drop, sym, ap, ◌∙◌, subst, ⊎_elim, arith, length-append, length-take, Some, None, Option}
use Rattle.std.specs.List.{range_with_len, AllByRecursion}
use Rattle.std.specs.List.Sorted.{IsPermutation, IsNonDecreasing}
use Rattle.std.proofs.ByRecursion.{All-append, All-get_or}
use Rattle.std.proofs.lemmas.List.{get_or-take, get_or-drop, get_or_past}
use Rattle.std.proofs.lemmas.Bool.{cases_lt}
use Rattle.deals.specs.Contract.{Contract, nothing, Day, Deal, Morning, flows, net, owed, all_days, all_deals}
use Rattle.deals.specs.Promise.{Fit, size}
use Rattle.deals.specs.Residual.{come_to}
use Rattle.deals.specs.House.{Owes}
use Rattle.deals.specs.Payments.{pair_of, nobody, Between}
use Rattle.deals.proofs.House.{each_deal, length_all_days}
use Rattle.deals.proofs.Short.{rates_fit}
use Rattle.texts.specs.Stages.{built_at}
use Rattle.texts.specs.declared.stages.Stage.TheVariants.{All as Every}
use Rattle.mornings.specs.Verdict.{taken}
use Rattle.mornings.specs.Judgement.{MorningRead}
use Rattle.mornings.specs.Laws.{JudgedAll, no_more, one_more}
use Rattle.mornings.specs.declared.Start.{Start}
use Rattle.mornings.proofs.Fits.{taken_fits}
use Rattle.replay.specs.declared.days.DayAt.{DayAt}
use Rattle.replay.specs.declared.listing.DealIn.{DealIn}
use Rattle.replay.specs.Days.{nowhere, bytes_of}
use Rattle.replay.specs.Listing.{AllRun, AllListed}
use Rattle.replay.specs.Meaning.{DaysAre, dues_on, as_due}
use Rattle.replay.specs.Order.{pair_in, keys_from}
use Rattle.replay.specs.Adding.{OwesIt}
use Rattle.replay.specs.Settle.{Ordered, owed_by, grouped_payments}
use Rattle.mornings.specs.Pairs.{net_payments}
use Rattle.replay.specs.Standing.{no_morning, MorningsStand}
use Rattle.replay.proofs.InTurn.{none_listed, some_listed}
use Rattle.replay.proofs.Ordering.{no_deal}
use Rattle.replay.proofs.Judged.{Matches, matches_long, matches_at, all_listed, rates_stand, chosen_stand}
use Rattle.replay.proofs.Final.{owe, owes_of, owes_long, owes_at, between_is, owe_size, keys_good, keys_long, order_same, order_rises, paid_is_net, pair_same}

-- BYTES

small_take : (s : List ℕ) (n : ℕ) → ((k : ℕ) → get_or s k 0 < 256) → (k : ℕ) → get_or (take n s) k 0 < 256
small_take s n h k =
    ⊎_elim (λ lt. omega (arith, get_or-take n s k 0 lt, h k)) (λ le. omega (arith, get_or_past (take n s) k 0 (omega (arith, length-take n s)))) (cases_lt k n)

small_bytes : (kept : List ℕ) (d : DayAt) → ((k : ℕ) → get_or kept k 0 < 256) → (k : ℕ) → get_or (bytes_of kept d) k 0 < 256
unfolding bytes_of
small_bytes kept d h k = small_take (drop d.from kept) (d.to - d.from) (λ j. omega (arith, get_or-drop d.from kept j 0, h (d.from + j))) k

-- MORNINGS IN BOUNDS

judged_from : (st : Start) (rest : List Morning) (t n : ℕ) →
    ((k : ℕ) → k < length rest →
    (s : List ℕ) × ((j : ℕ) → get_or s j 0 < 256) × MorningRead Every st (t + k) (n + length (all_deals (take k rest))) s 0 (taken (get_or rest k no_morning) (length s))) → JudgedAll Every st t n rest
unfolding all_deals
judged_from st [] t n h = no_more
judged_from st (m ∷ rest) t n h =
    let first = h 0 (omega arith) in
    let day : t + 0 ≡ t = omega arith in
    let none : n + 0 ≡ n = omega arith in
    one_more first.0 first.1 (subst (λ z. MorningRead Every st z n first.0 0 (taken m (length first.0))) day (subst (λ z. MorningRead Every st (t + 0) z first.0 0 (taken m (length first.0))) none first.2))
    (judged_from st rest (suc t) (n + length m.deals) (λ k l. later k (h (suc k) (omega arith))))
  where
    later : (k : ℕ) →
        (s : List ℕ) × ((j : ℕ) → get_or s j 0 < 256) × MorningRead Every st (t + suc k) (n + length (m.deals ++ all_deals (take k rest))) s 0 (taken (get_or rest k no_morning) (length s)) →
        (s : List ℕ) × ((j : ℕ) → get_or s j 0 < 256) × MorningRead Every st (suc t + k) (n + length m.deals + length (all_deals (take k rest))) s 0 (taken (get_or rest k no_morning) (length s))
    later k g =
        let day : t + suc k ≡ suc t + k = omega arith in
        let many : n + length (m.deals ++ all_deals (take k rest)) ≡ n + length m.deals + length (all_deals (take k rest)) = omega (arith, length-append m.deals (all_deals (take k rest))) in (
          g.0,
          g.1,
          subst (λ z. MorningRead Every st z (n + length m.deals + length (all_deals (take k rest))) g.0 0 (taken (get_or rest k no_morning) (length g.0))) day
              (subst (λ z. MorningRead Every st (t + suc k) z g.0 0 (taken (get_or rest k no_morning) (length g.0))) many g.2),
        )

abbrev Apart : ℕ → Deal → Type 0
Apart ps d = (d.holder < ps) × (d.other < ps) × (d.holder ≢ d.other)

fit_apart : (built : Contract → Bool) (ps rs cs t : ℕ) (ms : List Morning) → Fit built ps rs cs t ms → AllByRecursion (Apart ps) (all_deals ms)
unfolding Fit all_deals
fit_apart built ps rs cs t [] f = tt
fit_apart built ps rs cs t (m ∷ ms) f =
    All-append (Apart ps) m.deals (all_deals ms) (each_deal (Apart ps) m.deals (λ j d l e. ((f.3 j d l e).0, (f.3 j d l e).1, (f.3 j d l e).2))) (fit_apart built ps rs cs (suc t) ms f.6)

owes_between : (ps : ℕ) (ds : List Day) (c : ℕ) (dd : List Deal) → AllByRecursion (Apart ps) dd → AllByRecursion (Between ps) (owes_of ds c dd)
unfolding owes_of
owes_between ps ds c [] h = tt
owes_between ps ds c (d ∷ dd) h = (record { holds = h.0.0; owes = h.0.1; apart = h.0.2 }, owes_between ps ds (suc c) dd h.1)

wider : (ps : ℕ) (os : List Owes) (c : ℕ) → ps ≤ 1024 → AllByRecursion (Between ps) os → c < length os → Between 1024 (get_or os c nobody)
wider ps os c le h lt =
    let b = All-get_or (Between ps) os c nobody lt h in
    record { holds = omega (arith, b.holds); owes = omega (arith, b.owes); apart = b.apart }

-- WHAT IS PAID

module _ (st : Start) (kept : List ℕ) (days : List DayAt) (ms : List Morning) (typed : (k : ℕ) → get_or kept k 0 < 256) (stand : MorningsStand st kept days ms) (some : 1 ≤ length ms) where
  abbrev ds : List Day
  ds = all_days ms

  abbrev dd : List Deal
  dd = all_deals ms

  pub due : List Owes
  due = owes_of ds 0 dd

  pub listed : (xs : List DealIn) × AllRun kept days 0 (length days) xs × Matches st kept days xs dd
  listed = all_listed st kept days ms stand

  facts : Fit (built_at Every) st.houses st.rates st.currencies 0 ms × (0 + length dd ≤ 65536) × (0 + length ms ≤ 65536)
  facts =
      taken_fits.1 Every st 0 0 ms (omega arith) (omega arith)
      (judged_from st ms 0 0 (λ k l.
      let day : k ≡ 0 + k = omega arith in
      let many : length (all_deals (take k ms)) ≡ 0 + length (all_deals (take k ms)) = omega arith in
      let s = bytes_of kept (get_or days k nowhere) in (
        s,
        small_bytes kept (get_or days k nowhere) typed,
        subst (λ z. MorningRead Every st z (0 + length (all_deals (take k ms))) s 0 (taken (get_or ms k no_morning) (length s))) day
            (subst (λ z. MorningRead Every st k z s 0 (taken (get_or ms k no_morning) (length s))) many (stand.judged k l).whole),
      )))

  pub few_deals : length dd ≤ 65536
  few_deals = omega (arith, facts.1)

  -- how many deals are listed
  pub listed_none : (deals deals' : List DealIn) (r : Option ℕ) → AllListed kept days deals r deals' → r ≡ None → length deals < length dd
  listed_none deals deals' r h e =
      let short = none_listed deals 0 listed.0 r deals' (h listed.0 listed.1) e in
      omega (arith, matches_long st kept days listed.0 dd listed.2)

  pub listed_some : (deals deals' : List DealIn) (r : Option ℕ) (n : ℕ) → AllListed kept days deals r deals' → r ≡ Some n → (n ≡ length dd) × (n ≤ length deals) × (take n deals' ≡ listed.0)
  listed_some deals deals' r n h e =
      let full = some_listed deals 0 listed.0 r deals' n (h listed.0 listed.1) e in
      (omega (arith, full.0, matches_long st kept days listed.0 dd listed.2), full.1, full.2)

  are : DaysAre st.rates kept days ds
  are =
      record {
        many = stand.many ∙ sym (length_all_days ms);
        some = omega (arith, length_all_days ms);
        early = omega (arith, length_all_days ms, facts.2);
        few = stand.start.rates;
        small = rates_fit (built_at Every) st.houses st.rates st.currencies 0 ms facts.0;
        rates = λ u k lt l. rates_stand st kept days ms stand u k (omega (arith, length_all_days ms)) l;
        choices = λ c t p lt h. chosen_stand st kept days ms stand c t p (omega (arith, length_all_days ms)) h;
      }

  between : AllByRecursion (Between st.houses) due
  unfolding due
  between = owes_between st.houses ds 0 dd (fit_apart (built_at Every) st.houses st.rates st.currencies 0 ms facts.0)

  module _ (xs : List DealIn) (matches : Matches st kept days xs dd) where
    long : length xs ≡ length dd
    long = matches_long st kept days xs dd matches

    no_one : Deal
    no_one = record { holder = 0; other = 0; contract = nothing; from = 0 }

    due_is : (c : ℕ) → c < length xs → get_or due c nobody ≡ owe ds c (get_or dd c no_one)
    unfolding due
    due_is c lt = owes_at ds c dd no_one (omega (arith, long))

    owes : (c : ℕ) (y : DealIn) → c < length xs → OwesIt st kept days (get_or xs c y) c (get_or due c nobody)
    owes c y lt =
        let m = matches_at st kept days xs dd c y no_one matches lt in
        let d = get_or dd c no_one in
        let is = due_is c lt in
        record {
          coins = stand.start.currencies;
          ds = ds;
          contract = d.contract;
          holder = m.holder ∙ sym (ap (λ o. o.holder) is);
          other = m.other ∙ sym (ap (λ o. o.other) is);
          are = are;
          stands = m.stands;
          now = ap (λ o. o.now) is ∙ ap (λ t. map as_due (dues_on (length ds - 1) (flows ds c [] d.contract t))) (sym m.from);
        }

    pub pairs : (j : ℕ) (y : DealIn) → j < length xs → pair_in (get_or xs j y) ≡ pair_of (get_or due j nobody)
    pairs j y lt = let w = owes j y lt in pair_same (get_or xs j y) (get_or due j nobody) w.holder w.other

    pub many : length due ≡ length xs
    unfolding due
    many = owes_long ds 0 dd ∙ sym long

    pub ordered : (keys : List ℕ) → IsPermutation (keys_from 0 xs) keys → Ordered st kept days xs keys due
    ordered keys same =
        let few : length xs ≤ 65536 = omega (arith, long, few_deals) in
        let good = keys_good due xs many few keys pairs same in
        record {
          many = many;
          few = omega (arith, keys_long due xs many few keys pairs same);
          owe = owes;
          small = λ c k lt.
              let m = matches_at st kept days xs dd c no_deal no_one matches lt in
              subst (λ o. size (come_to k o.now) ≤ 1099511627776) (sym (due_is c lt)) (owe_size st.rates st.currencies ds c k (get_or dd c no_one) are.small are.early m.stands.text.fits);
          between = λ c lt. wider st.houses due c stand.start.houses between (omega (arith, many));
          numbers = λ i lt. (All-get_or (λ w. (w % 65536 < length xs) × (pair_of (get_or due (w % 65536) nobody) ≡ w / 65536)) keys i 0 lt good).0;
          pairs = λ i lt. (All-get_or (λ w. (w % 65536 < length xs) × (pair_of (get_or due (w % 65536) nobody) ≡ w / 65536)) keys i 0 lt good).1;
        }

    pub paid : (keys : List ℕ) → IsPermutation (keys_from 0 xs) keys → IsNonDecreasing keys → grouped_payments st.currencies (owed_by due keys) ≡ net_payments st ms
    unfolding net_payments net due
    paid keys same up =
        let few : length xs ≤ 65536 = omega (arith, long, few_deals) in
        paid_is_net st.houses st.currencies (λ a b k. net ms k a b) due keys stand.start.houses stand.start.currencies between
        (λ a b k. between_is ds k a b 0 dd ∙ ap (λ n. owed ds (n - 1) k a b 0 dd) (length_all_days ms))
        (subst (λ n. IsPermutation (range_with_len 0 n) (map (λ w. w % 65536) keys)) (sym many) (order_same due xs many few keys pairs same))
        (order_rises due xs many few keys pairs same up)
