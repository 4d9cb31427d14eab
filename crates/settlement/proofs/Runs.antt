-- Whole runs: what stays in the memory from morning to morning, and what was paid on each.
use Rattle.std.proofs.Common.{◌≡◌, ℕ, ◌+◌, get_or, ◌%◌, ◌*◌, ◌<◌, ◌≤◌, List, [], ◌∷◌, ◌++◌, map, length, take, drop, ℤ, pos, sym, refl, ap, ◌∙◌, subst, ⊎_elim, arith}
use Rattle.std.specs.List.{AllByRecursion}
use Rattle.std.proofs.ByRecursion.{All-get_or, All-weaker, All-map}
use Rattle.std.proofs.Math.Seq.{take-append_seam}
use Rattle.std.proofs.lemmas.Simd.{map-map}
use Rattle.std.proofs.lemmas.List.{append_assoc, map-id}
use Rattle.deals.specs.Contract.{Day, Morning, net, all_days, all_deals}
use Rattle.deals.specs.Promise.{Fit, thin, ThinBuilt, WithinLimit, size}
use Rattle.deals.specs.House.{House, pays_now}
use Rattle.deals.specs.Payments.{Payment, TruePayment, paid, payments}
use Rattle.deals.proofs.House.{DealFits, house_pays, house_same_paid, length_all_days}
use Rattle.deals.proofs.Payments.{payments_in_order_lem, paid_two_sided}
use Rattle.deals.proofs.Later.{later_mornings_lem}
use Rattle.deals.proofs.Short.{deals_fit, rates_fit, paid_within_lem, sums_short_lem}
use Rattle.deals.proofs.Sizes.{size_is, within_limit_lem}
use Rattle.texts.specs.declared.stages.Stage.TheVariants.{Thin}
use Rattle.mornings.specs.declared.Start.{Start}
use Rattle.mornings.specs.Verdict.{Fault, fault, Verdict, taken, refused}
use Rattle.mornings.specs.Judgement.{MorningRead}
use Rattle.mornings.specs.declared.payments.Payment.{Payment as MorningPayment}
use Rattle.mornings.specs.Payments.{PaymentFits, paid_as, payments_bytes, payments_in}
use Rattle.mornings.specs.Pairs.{as_bytes, net_payments, Written}
use Rattle.mornings.specs.Written.{StartFits}
use Rattle.mornings.proofs.Writing.{length_bytes}
use Rattle.mornings.proofs.Paid.{bytes_say}
use Rattle.mornings.proofs.Taken.{never_same}
use Rattle.residual.specs.Deal.{Holds, LeftStands}
use Rattle.settlement.specs.declared.room.Lent.{Lent}
use Rattle.settlement.specs.declared.room.Lengths.{Lengths}
use Rattle.settlement.specs.Room.{slice_number, wanted, FirstShort}
use Rattle.mornings.proofs.Verdicts.{one_verdict}
use Rattle.std.proofs.lemmas.Bool.{cases_lt}
use Rattle.std.proofs.lemmas.Nat.{mul-le}
use Rattle.fixings.specs.Fixings.{HoldsRates}
use Rattle.settlement.specs.Directory.{entry_of, part_of}
use Rattle.settlement.specs.Keeping.{Keeps}
use Rattle.settlement.specs.Remains.{Memory, memory, new_house, left_of, Remains, Answer, Took}
use Rattle.settlement.specs.Remains as answer
use Rattle.settlement.specs.Runs.{OneAnswer, Alike, PaysTheSame, RunsLater, Paying, Run, begins, takes, refuses, lends, PaidOn, PaidEach, NoneRemains, AnythingElse, RunsPay, RunsWithin, ModelPays}
use Rattle.settlement.proofs.Taking.{numbers, net_lines}

-- WHAT THE MEMORY HOLDS

none_holds : (st : Start) (deals : List ℕ) (rates : List ℤ) (work payments : List ℕ) → StartFits st → Remains (memory (new_house st) deals rates work payments) []
unfolding Fit all_deals all_days
none_holds st deals rates work payments fits =
    record {
      start = fits;
      fit = tt;
      days = refl;
      in_time = omega arith;
      many = refl;
      few = omega arith;
      left = λ long c lt. absurd (omega arith);
      rates = λ long. record { long = long; rates = λ d k lt near in-day. absurd (omega arith) };
    }

pub none_remains : NoneRemains
none_remains st m fits new = subst (λ h. Remains (record { house = h; deals = m.deals; rates = m.rates; work = m.work; payments = m.payments }) []) (sym new) (none_holds st m.deals m.rates m.work m.payments fits)

-- a deal is kept by its entry, and by its part if something is left of it
keeps_else : (s s' : List ℕ) (c : ℕ) (h : Rattle.deals.specs.House.Held) → entry_of s' c ≡ entry_of s c → (0 < (entry_of s c).kept.rows → part_of s' c ≡ part_of s c) → Keeps s c h → Keeps s' c h
keeps_else s s' c h entry part k =
    record {
      holder = ap (λ e. e.holder) entry ∙ k.holder;
      other = ap (λ e. e.other) entry ∙ k.other;
      left =
          subst (λ e. Holds (part_of s' c) e.kept h.entries h.slots) (sym entry)
          (record {
            rows_are = k.left.rows_are;
            wake_is = k.left.wake_is;
            few = k.left.few;
            stands = λ some. subst (λ z. LeftStands z (entry_of s c).kept h.entries h.slots) (sym (part (omega (arith, some, k.left.rows_are)))) (k.left.stands some);
          });
    }

rates_else : (words words' : List ℤ) (n : ℕ) (ds : List Day) → 4097 * n ≤ length words' → ((i : ℕ) → i < 4097 * n → get_or words' i (pos 0) ≡ get_or words i (pos 0)) → HoldsRates words n ds → HoldsRates words' n ds
rates_else words words' n ds long same h =
    record {
      long = long;
      rates = λ d k lt near coin.
          let row = mul-le (d % 4097) n 4096 n (omega arith) (omega arith) in
          same (d % 4097 * n + k) (omega (arith, row, coin)) ∙ h.rates d k lt near coin;
    }

else_holds : (m m' : Memory) (ms : List Morning) → Alike m m' → Remains m ms → Remains (record { house = m.house; deals = m'.deals; rates = m'.rates; work = m'.work; payments = m'.payments }) ms
else_holds m m' ms a r =
    record {
      start = r.start;
      fit = r.fit;
      days = r.days;
      in_time = r.in_time;
      many = r.many;
      few = r.few;
      left = λ long c lt.
          let same = a.deals (omega (arith, long, r.many)) in
          let below : c < m.house.deals = omega (arith, lt, r.many) in
          keeps_else m.deals m'.deals c _ (same.entries c below) (same.parts c below) (r.left (omega (arith, same.long, r.many)) c lt);
      rates = λ long.
          ⊎_elim (λ (some : 0 < m.house.day). let same = a.rates some long in rates_else m.rates m'.rates m.house.start.rates (all_days ms) long (same.same) (r.rates same.long))
          (λ none. record { long = long; rates = λ d k lt near coin. absurd (omega (arith, lt, none, r.days, length_all_days ms)) }) (cases_lt 0 m.house.day);
    }

pub anything_else : AnythingElse
anything_else m m' ms a r = subst (λ h. Remains (record { house = h; deals = m'.deals; rates = m'.rates; work = m'.work; payments = m'.payments }) ms) (sym a.house) (else_holds m m' ms a r)

-- WHAT IS PAID ON A DAY

-- what stands at the front of the bytes
paid_front : (was : List ℕ) (ps : List MorningPayment) (n : ℕ) (s : List ℕ) → Written was ps n s → take (13 * n) s ≡ payments_bytes ps
paid_front was ps n s w =
    ap (take (13 * n)) w.bytes ∙ ap (λ k. take k (payments_bytes ps ++ drop (13 * n) was)) (ap (λ k. 13 * k) w.count ∙ sym (length_bytes ps)) ∙ take-append_seam (payments_bytes ps) (drop (13 * n) was)

same_again : (ps : List Payment) → map paid_as (map as_bytes ps) ≡ ps
same_again ps = map-map paid_as as_bytes ps ∙ map-id ps

module _ (st : Start) (ms : List Morning) (start : StartFits st) (fit : Fit thin st.houses st.rates st.currencies 0 ms) (in_time : length ms ≤ 65536) (few : length (all_deals ms) ≤ 65536) where
  abbrev now : House
  now = left_of st ms

  pays_net : (k a b : ℕ) → pays_now (left_of st ms) k a b ≡ net ms k a b
  pays_net k a b = house_pays thin st.houses st.rates st.currencies k a b ms fit

  lines_are : map as_bytes (payments (left_of st ms)) ≡ net_payments st ms
  lines_are = let n = numbers st ms fit in net_lines st ms (left_of st ms) n.houses n.currencies pays_net

  small_houses : (left_of st ms).houses ≤ 1024
  small_houses = omega (arith, (numbers st ms fit).houses, start.houses)

  few_currencies : (left_of st ms).currencies ≤ 64
  few_currencies = omega (arith, (numbers st ms fit).currencies, start.currencies)

  each_fits : AllByRecursion PaymentFits (map as_bytes (payments (left_of st ms)))
  each_fits =
      All-map PaymentFits as_bytes (payments (left_of st ms))
      (All-weaker (TruePayment (left_of st ms)) (λ p. PaymentFits (as_bytes p))
      (λ p true.
      let most = sums_short_lem thin st.houses st.rates st.currencies p.currency p.from p.to ms fit in_time in
      let big = ap size true.owed ∙ size_is (pos p.amount) in
      record {
        above = true.above;
        from = omega (arith, true.payer, small_houses);
        to = omega (arith, true.payee, small_houses);
        currency = omega (arith, true.coin, few_currencies);
        amount = omega (arith, most, big, few);
      })
      (payments (left_of st ms)) (payments_in_order_lem (left_of st ms) small_houses few_currencies).true_each)

  pub paid_on : (was : List ℕ) (n : ℕ) (bytes : List ℕ) → Written was (net_payments st ms) n bytes → PaidOn st ms (record { count = n; bytes = bytes })
  paid_on was n bytes w =
      let front = paid_front was (net_payments st ms) n bytes w in
      record {
        count = w.count;
        bytes = front;
        says = λ k a b coin payer payee apart.
            let numbers-are = numbers st ms fit in
            ap (paid k a b) (ap (λ c. payments_in c bytes) w.count ∙ (bytes_say bytes (net_payments st ms) (subst (AllByRecursion PaymentFits) lines_are each_fits) (ap (λ c. take (13 * c) bytes) (sym w.count) ∙ front)).0)
            ∙ ap (λ ps. paid k a b (map paid_as ps)) (sym lines_are) ∙ ap (paid k a b) (same_again (payments (left_of st ms)))
            ∙ (payments_in_order_lem (left_of st ms) small_houses few_currencies).says k a b (omega (arith, coin, numbers-are.currencies)) (omega (arith, payer, numbers-are.houses)) (omega (arith, payee, numbers-are.houses)) apart
            ∙ pays_net k a b;
        two_sided = λ k a b apart. paid_two_sided k a b apart (payments_in n bytes);
      }

-- one day more
each_push : (st : Start) (done ms : List Morning) (ps : List Paying) (m : Morning) (p : Paying) → PaidEach st done ms ps → PaidOn st (done ++ (ms ++ m ∷ [])) p → PaidEach st done (ms ++ m ∷ []) (ps ++ p ∷ [])
unfolding PaidEach
each_push st done [] [] m p each last = (last, tt)
each_push st done (x ∷ xs) (q ∷ qs) m p each last =
    (each.0, each_push st (done ++ x ∷ []) xs qs m p each.1 (subst (λ z. PaidOn st z p) (sym (append_assoc done (x ∷ []) (xs ++ m ∷ []))) last))
each_push st done [] (q ∷ qs) m p each last = absurd each
each_push st done (x ∷ xs) [] m p each last = absurd each

-- ONE ANSWER

two_verdicts : {e : Fault} {m : Morning} {j : ℕ} → ◌≡◌ {A = Verdict Morning} (refused e) (taken m j) → ⊥
two_verdicts h = cc

-- of two that are each the first too short none comes before the other
one_short : (need lent : Lengths) (s t : Lent) → FirstShort need lent s → FirstShort need lent t → slice_number s ≡ slice_number t
one_short need lent s t a b =
    ⊎_elim (λ l. let late = b.before s l in absurd (omega (arith, late, a.short)))
    (λ l. ⊎_elim (λ k. let late = a.before t k in absurd (omega (arith, late, b.short))) (λ k. omega arith) (cases_lt (slice_number t) (slice_number s))) (cases_lt (slice_number s) (slice_number t))

pub one_answer : OneAnswer
one_answer st ms bytes lent _ _ (answer.refuses r) (answer.refuses r') = one_verdict.1 Thin st (length ms) (length (all_deals ms)) bytes _ _ r r'
one_answer st ms bytes lent _ _ (answer.refuses r) (answer.is_short r' short) = absurd (two_verdicts (one_verdict.1 Thin st (length ms) (length (all_deals ms)) bytes _ _ r r'))
one_answer st ms bytes lent _ _ (answer.refuses r) (answer.takes r' long) = absurd (two_verdicts (one_verdict.1 Thin st (length ms) (length (all_deals ms)) bytes _ _ r r'))
one_answer st ms bytes lent _ _ (answer.is_short r short) (answer.refuses r') = absurd (two_verdicts (one_verdict.1 Thin st (length ms) (length (all_deals ms)) bytes _ _ r' r))
one_answer st ms bytes lent _ _ (answer.takes r long) (answer.refuses r') = absurd (two_verdicts (one_verdict.1 Thin st (length ms) (length (all_deals ms)) bytes _ _ r' r))
one_answer st ms bytes lent _ _ (answer.is_short {m = m} {s = s} r short) (answer.is_short {m = n} {s = t} r' short') =
    let same = never_same.0 Thin st (length ms) (length (all_deals ms)) m n bytes (length bytes) (length bytes) r r' in
    ap (λ k. refused (fault 5 k)) (one_short (wanted st (all_deals (ms ++ n ∷ []))) lent s t (subst (λ z. FirstShort (wanted st (all_deals (ms ++ z ∷ []))) lent s) same short) short')
one_answer st ms bytes lent _ _ (answer.is_short {m = m} {s = s} r short) (answer.takes {m = n} r' long) =
    let same = never_same.0 Thin st (length ms) (length (all_deals ms)) m n bytes (length bytes) (length bytes) r r' in
    let first = subst (λ z. FirstShort (wanted st (all_deals (ms ++ z ∷ []))) lent s) same short in
    let enough = long s in
    absurd (omega (arith, first.short, enough))
one_answer st ms bytes lent _ _ (answer.takes {m = m} r long) (answer.is_short {m = n} {s = s} r' short) =
    let same = never_same.0 Thin st (length ms) (length (all_deals ms)) n m bytes (length bytes) (length bytes) r' r in
    let first = subst (λ z. FirstShort (wanted st (all_deals (ms ++ z ∷ []))) lent s) same short in
    let enough = long s in
    absurd (omega (arith, first.short, enough))
one_answer st ms bytes lent _ _ (answer.takes r long) (answer.takes r' long') = one_verdict.1 Thin st (length ms) (length (all_deals ms)) bytes _ _ r r'

-- WHOLE RUNS

read_of : {st : Start} {ms : List Morning} {bytes : List ℕ} {lent : Lengths} {m : Morning} {j : ℕ} → Answer st ms bytes lent (taken m j) → MorningRead Thin st (length ms) (length (all_deals ms)) bytes 0 (taken m j)
read_of (answer.takes read long) = read

record Goes (st : Start) (ms : List Morning) (ps : List Paying) (m : Memory) : Type 0 where
  start : m.house.start ≡ st
  remains : Remains m ms
  paid : PaidEach st [] ms ps

goes_on : (st : Start) (ms : List Morning) (ps : List Paying) (m : Memory) → Run st ms ps m → Goes st ms ps m
unfolding PaidEach
goes_on st _ _ m (begins _ fits new) = record { start = ap (λ h. h.start) new; remains = none_remains st m fits new; paid = tt }
goes_on st _ _ m' (takes {ms = ms} {ps = ps} {m = m} {sums = sums} {bytes = bytes} {n = n} {morning = morning} run call read) =
    let before = goes_on st ms ps m run in
    let took : Took m sums bytes n m' ms = call.answers ms before.remains in
    let read' = subst (λ s. MorningRead Thin s (length ms) (length (all_deals ms)) bytes 0 (taken took.morning (length bytes))) before.start (read_of took.answer) in
    let same : took.morning ≡ morning = never_same.0 Thin st (length ms) (length (all_deals ms)) took.morning morning bytes (length bytes) (length bytes) read' read in
    let rem : Remains m' (ms ++ morning ∷ []) = subst (λ z. Remains m' (ms ++ z ∷ [])) same took.remains in
    let start' : m'.house.start ≡ st = took.start ∙ before.start in
    let written : Written m.payments (net_payments st (ms ++ morning ∷ [])) n m'.payments =
    subst (λ s. Written m.payments (net_payments s (ms ++ morning ∷ [])) n m'.payments) before.start (subst (λ z. Written m.payments (net_payments m.house.start (ms ++ z ∷ [])) n m'.payments) same took.paid) in
    record {
      start = start';
      remains = rem;
      paid =
          each_push st [] ms ps morning (record { count = n; bytes = m'.payments }) before.paid
          (paid_on st (ms ++ morning ∷ []) (subst StartFits start' rem.start) (subst (λ s. Fit thin s.houses s.rates s.currencies 0 (ms ++ morning ∷ [])) start' rem.fit) rem.in_time rem.few m.payments n m'.payments written);
    }
goes_on st _ _ m' (refuses {ms = ms} {ps = ps} {m = m} run call) = subst (Goes st ms ps) (sym call.unchanged) (goes_on st ms ps m run)
goes_on st _ _ m' (lends {ms = ms} {ps = ps} {m = m} run alike) =
    let before = goes_on st ms ps m run in
    record { start = ap (λ h. h.start) alike.house ∙ before.start; remains = anything_else m m' ms alike before.remains; paid = before.paid }

pub runs_pay : RunsPay
runs_pay st ms ps m run = let g = goes_on st ms ps m run in (g.remains, g.paid)

-- what was paid on one of the days
paid_then : (st : Start) (done ms later : List Morning) (ps qs : List Paying) (p : Paying) → PaidEach st done (ms ++ later) (ps ++ p ∷ qs) → length ps + 1 ≡ length ms → PaidOn st (done ++ ms) p
unfolding PaidEach
paid_then st done [] later ps qs p each many = absurd (omega (arith, many))
paid_then st done (m ∷ []) later [] qs p each many = each.0
paid_then st done (m ∷ (k ∷ ms)) later [] qs p each many = absurd (omega (arith, many))
paid_then st done (m ∷ ms) later (q ∷ ps) qs p each many =
    subst (λ z. PaidOn st z p) (append_assoc done (m ∷ []) ms) (paid_then st (done ++ m ∷ []) ms later ps qs p each.1 (omega (arith, many)))

pub runs_later : RunsLater
runs_later st ms later ps qs p m k a b run many coin payer payee apart =
    let g = goes_on st (ms ++ later) (ps ++ p ∷ qs) m run in
    let fit = subst (λ s. Fit thin s.houses s.rates s.currencies 0 (ms ++ later)) g.start g.remains.fit in
    (paid_then st [] ms later ps qs p g.paid many).says k a b coin payer payee apart
    ∙ sym (later_mornings_lem thin st.houses st.rates st.currencies k a b ms later fit (omega (arith, many)))

-- a morning that is taken from memory that says the same is paid in the same bytes
pub pays_the_same : PaysTheSame
pays_the_same m n m' n' ms sums sums' bytes i j alike rem first second =
    let a : Took m sums bytes i m' ms = first.answers ms rem in
    let b : Took n sums' bytes j n' ms = second.answers ms (anything_else m n ms alike rem) in
    let start : n.house.start ≡ m.house.start = ap (λ h. h.start) alike.house in
    let same : b.morning ≡ a.morning =
    never_same.0 Thin m.house.start (length ms) (length (all_deals ms)) b.morning a.morning bytes (length bytes) (length bytes)
    (subst (λ s. MorningRead Thin s (length ms) (length (all_deals ms)) bytes 0 (taken b.morning (length bytes))) start (read_of b.answer)) (read_of a.answer) in
    let paid : net_payments n.house.start (ms ++ b.morning ∷ []) ≡ net_payments m.house.start (ms ++ a.morning ∷ []) = λ t. net_payments (start t) (ms ++ same t ∷ []) in (
      a.paid.count ∙ sym (ap length paid) ∙ sym b.paid.count,
      paid_front m.payments (net_payments m.house.start (ms ++ a.morning ∷ [])) i m'.payments a.paid
          ∙ sym (ap payments_bytes paid) ∙ sym (paid_front n.payments (net_payments n.house.start (ms ++ b.morning ∷ [])) j n'.payments b.paid),
    )

pub runs_within : RunsWithin
unfolding DealFits WithinLimit
runs_within st ms ps m c k d run lt is =
    let r = (runs_pay st ms ps m run).0 in
    let s = m.house.start in
    let fits = subst (DealFits s.rates s.currencies) is (All-get_or (DealFits s.rates s.currencies) (all_deals ms) c d lt (deals_fit thin s.houses s.rates s.currencies 0 ms r.fit)) in
    let rates = rates_fit thin s.houses s.rates s.currencies 0 ms r.fit in
    let days : length (all_days ms) ≤ 65536 = omega (arith, length_all_days ms, r.in_time) in (
      within_limit_lem s.rates s.currencies d.from k c (all_days ms) [] d.contract fits rates days,
      (paid_within_lem (all_days ms) s.rates s.currencies c d.from 0 d.contract fits rates days (omega arith)).1,
    )

pub model_pays : ModelPays
unfolding ThinBuilt
model_pays = (house_same_paid thin, λ rs cs x fits is. is)
