-- One morning more: what the lent memory holds after it, by what it held before.
use Rattle.std.proofs.Common.{◌≡◌, ℕ, Result, Err, ⊎_elim, suc, ◌+◌, ◌*◌, ◌<◌, ◌≤◌, min, List, [], ◌∷◌, ◌++◌, map, length, get_or, ℤ, pos, sym, refl, ap, ◌∙◌, subst, add-zero, arith}
use Rattle.std.proofs.lemmas.Bool.{cases_lt}
use Rattle.std.specs.List.{AllByRecursion}
use Rattle.std.proofs.ByRecursion.{All-append}
use Rattle.std.proofs.lemmas.Simd.{map-map}
use Rattle.std.proofs.lemmas.List.{length-append, append-nil}
use Rattle.deals.specs.Contract.{Morning, net, all_days, all_deals}
use Rattle.deals.specs.Promise.{Fit, thin}
use Rattle.deals.specs.Lines.{all_lines, pair_count}
use Rattle.deals.specs.House.{House, start, taken, happens, pays_now}
use Rattle.deals.specs.Payments.{Between, gone, deals_today, payments, written}
use Rattle.deals.specs.Kept.{kept_deal}
use Rattle.deals.proofs.House.{after_mornings, house_of, house_pays, length_all_days, each_deal}
use Rattle.deals.proofs.Kept.{kept_is, all_roomy}
use Rattle.deals.proofs.Books.{goes_push, all_days_push, all_deals_push, payments_few}
use Rattle.deals.proofs.Short.{sums_short_lem}
use Rattle.deals.proofs.Payments.{all_between}
use Rattle.texts.specs.declared.stages.Stage.TheVariants.{Thin}
use Rattle.mornings.specs.declared.Start.{Start}
use Rattle.mornings.specs.declared.Ends.{Ends}
use Rattle.mornings.specs.Verdict as verdict
use Rattle.mornings.specs.Verdict.{Verdict}
use Rattle.mornings.specs.Judgement.{DealRead, MorningRead, LaidOut}
use Rattle.mornings.specs.Laws.{no_more, one_more}
use Rattle.mornings.specs.Pairs.{as_bytes, net_payments}
use Rattle.mornings.specs.Pairs as pairs
use Rattle.mornings.proofs.Fits.{row_length, taken_fits}
use Rattle.mornings.proofs.Handed.{handed_out}
use Rattle.fixings.specs.Fixings.{HoldsRates, KeepsRates}
use Rattle.settlement.specs.Counting.{EntryStands, Inside, nobodys, PairsStand}
use Rattle.settlement.specs.Keeping.{Keeps}
use Rattle.settlement.specs.Opening.{OpensAll}
use Rattle.settlement.specs.Settled.{KeptToday, Bounded, Settled, Settles}
use Rattle.settlement.proofs.Writing.{to_shared}
use Rattle.settlement.proofs.Opened.{taken_many}
use Rattle.settlement.specs.declared.room.Lent.{Lent}
use Rattle.settlement.specs.declared.room.Lent.TheVariants.{Deals}
use Rattle.settlement.specs.Room.{wanted, FirstShort, Measures}
use Rattle.settlement.specs.Remains.{Memory, left_of, Remains, lengths}

-- MORNINGS IN BOUNDS

fit_push : (ps rs cs t : ℕ) (xs : List Morning) (m : Morning) → Fit thin ps rs cs t xs → Fit thin ps rs cs (t + length xs) (m ∷ []) → Fit thin ps rs cs t (xs ++ m ∷ [])
unfolding Fit
fit_push ps rs cs t [] m f g = subst (λ u. Fit thin ps rs cs u (m ∷ [])) (add-zero t) g
fit_push ps rs cs t (x ∷ xs) m f g = (f.0, f.1, f.2, f.3, f.4, f.5, fit_push ps rs cs (suc t) xs m f.6 (subst (λ u. Fit thin ps rs cs u (m ∷ [])) one_more g))
  where
    one_more : t + length (x ∷ xs) ≡ suc t + length xs
    one_more = omega arith

all_inside : (ps rs cs t : ℕ) (ms : List Morning) → ps ≤ 1024 → Fit thin ps rs cs t ms → AllByRecursion Inside (all_deals ms)
unfolding Fit all_deals
all_inside ps rs cs t [] few f = tt
all_inside ps rs cs t (m ∷ ms) few f =
    All-append Inside m.deals (all_deals ms) (each_deal Inside m.deals (λ j d l e. let b = f.3 j d l e in (omega (arith, few, b.0), omega (arith, few, b.1)))) (all_inside ps rs cs (suc t) ms few f.6)

early : (ps rs cs t : ℕ) (m : Morning) → Fit thin ps rs cs t (m ∷ []) → AllByRecursion (λ d. d.from < 65536) m.deals
unfolding Fit
early ps rs cs t m f = each_deal (λ d. d.from < 65536) m.deals (λ j d l e. (f.3 j d l e).4)

one_row : (m : Morning) → length (all_deals (m ∷ [])) ≡ length m.deals
unfolding all_deals
one_row m = ap length (append-nil m.deals)

-- the model's house has the numbers of the start, and how many mornings there were
pub record Numbers (st : Start) (ms : List Morning) (h : House) : Type 0 where
  pub houses : h.houses ≡ st.houses
  pub currencies : h.currencies ≡ st.currencies
  pub number : h.number ≡ length ms

pub numbers : (st : Start) (ms : List Morning) → Fit thin st.houses st.rates st.currencies 0 ms → Numbers st ms (left_of st ms)
unfolding house_of
numbers st ms f = rw (after_mornings thin st.houses st.rates st.currencies ms f) (record { houses = refl; currencies = refl; number = length_all_days ms })

-- WHAT IS PAID

pub net_lines : (st : Start) (ms : List Morning) (h : House) → h.houses ≡ st.houses → h.currencies ≡ st.currencies → ((k a b : ℕ) → pays_now h k a b ≡ net ms k a b) → map as_bytes (payments h) ≡ net_payments st ms
unfolding payments net_payments
net_lines st ms h houses currencies same =
    map-map as_bytes written (all_lines h.houses h.currencies (λ a b k. pays_now h k a b))
    ∙ (λ i. map (λ l. as_bytes (written l)) (all_lines (houses i) (currencies i) (λ a b k. same k a b i)))

-- what bytes are judged on the house's own day, they are judged after those mornings
pub on_the_day : (mem : Memory) (ms : List Morning) (bytes : List ℕ) (v : Verdict Morning) → Remains mem ms → MorningRead Thin mem.house.start mem.house.day mem.house.deals bytes 0 v →
    MorningRead Thin mem.house.start (length ms) (length (all_deals ms)) bytes 0 v
on_the_day mem ms bytes v rem read =
    subst (λ d. MorningRead Thin mem.house.start d (length (all_deals ms)) bytes 0 v) rem.days (subst (λ n. MorningRead Thin mem.house.start mem.house.day n bytes 0 v) rem.many read)

same_err : (s t : Lent) → ◌≡◌ {A = Result ℕ Lent} (Err s) (Err t) → s ≡ t
same_err s t h = cc

-- A MORNING THAT WAS JUDGED
module _ (mem : Memory) (ms : List Morning) (rem : Remains mem ms) (bytes : List ℕ) (small : (k : ℕ) → get_or bytes k 0 < 256) (parts : Ends) (m : Morning) (laid : LaidOut Thin mem.house.start mem.house.day mem.house.deals bytes parts m) where
  abbrev pub st : Start
  st = mem.house.start

  pub whole : MorningRead Thin mem.house.start (length ms) (length (all_deals ms)) bytes 0 (verdict.taken m (length bytes))
  whole = on_the_day mem ms bytes (verdict.taken m (length bytes)) rem laid.whole

  fits : Fit thin st.houses st.rates st.currencies (length ms) (m ∷ []) × (length (all_deals ms) + length (all_deals (m ∷ [])) ≤ 65536) × (length ms + length (m ∷ []) ≤ 65536)
  fits = taken_fits.1 Thin st (length ms) (length (all_deals ms)) (m ∷ []) rem.in_time rem.few (one_more bytes small whole no_more)

  fit_all : Fit thin st.houses st.rates st.currencies 0 (ms ++ m ∷ [])
  fit_all = fit_push st.houses st.rates st.currencies 0 ms m rem.fit (subst (λ u. Fit thin st.houses st.rates st.currencies u (m ∷ [])) (omega arith) fits.0)

  come : length m.deals ≡ parts.deals
  come = row_length (DealRead Thin st mem.house.day) bytes parts.deals mem.house.deals 2 m.deals parts.rates_at laid.deals

  pub many_all : length (all_deals (ms ++ m ∷ [])) ≡ mem.house.deals + parts.deals
  many_all = ap length (all_deals_push ms m) ∙ length-append (all_deals ms) m.deals ∙ omega (arith, rem.many, come)

  pub few_all : length (all_deals (ms ++ m ∷ [])) ≤ 65536
  few_all = omega (arith, many_all, rem.many, come, one_row m, fits.1)

  -- each deal that is kept has its own houses
  kept_houses : 16384 * length (all_deals ms) ≤ length mem.deals → (c : ℕ) → c < mem.house.deals → EntryStands mem.deals c (get_or (all_deals ms) c nobodys)
  unfolding kept_deal
  kept_houses long c lt =
      let below : c < length (all_deals ms) = omega (arith, rem.many) in
      let k = rem.left long c below in
      let is = (kept_is thin st.houses st.rates st.currencies ms rem.fit).1 c nobodys below in
      record { holder = k.holder ∙ ap (λ h. h.holder) is; other = k.other ∙ ap (λ h. h.other) is }

  pub stand : 16384 * length (all_deals ms) ≤ length mem.deals → PairsStand mem.deals mem.house.deals bytes parts.deals (all_deals (ms ++ m ∷ []))
  stand long =
      record {
        old = all_deals ms;
        later = m.deals;
        parts = all_deals_push ms m;
        many = sym rem.many;
        inside = all_inside st.houses st.rates st.currencies 0 (ms ++ m ∷ []) rem.start.houses fit_all;
        kept = kept_houses long;
        start = st;
        day = mem.house.day;
        to = parts.rates_at;
        come = laid.deals;
      }

  -- which slice is the first that is too short: that of the deals, whatever it holds, or one by the pairs that stand there
  pub first_short : (sums : List ℕ) (s : Lent) → Measures mem.house.start mem.deals mem.house.deals bytes parts.deals (lengths mem sums) (Err s) → FirstShort (wanted mem.house.start (all_deals (ms ++ m ∷ []))) (lengths mem sums) s
  first_short sums s h =
      ⊎_elim
      (λ (less : length mem.deals < 16384 * (mem.house.deals + parts.deals)).
      subst (FirstShort (wanted mem.house.start (all_deals (ms ++ m ∷ []))) (lengths mem sums)) (sym (same_err s Deals (h.no_deals less)))
      (record { short = omega (arith, less, many_all); before = λ r lt. absurd (omega (arith, lt)) }))
      (λ enough. h.means (all_deals (ms ++ m ∷ [])) (stand (omega (arith, enough, rem.many))) few_all) (cases_lt (length mem.deals) (16384 * (mem.house.deals + parts.deals)))

  -- what the morning makes of the model's house
  after_is : happens (left_of st ms) m ≡ left_of st (ms ++ m ∷ [])
  after_is = sym (goes_push thin (start st.houses st.rates st.currencies) ms m)

  held_many : length (left_of st ms).held ≡ length (all_deals ms)
  held_many = (kept_is thin st.houses st.rates st.currencies ms rem.fit).0

  today_many : length (deals_today (left_of st ms) m) ≡ mem.house.deals + parts.deals
  unfolding deals_today
  today_many = length-append (left_of st ms).held (taken m.deals) ∙ omega (arith, held_many, taken_many m.deals, come, rem.many)

  bounded : Bounded (left_of st ms) m
  bounded =
      let n = numbers st ms rem.fit in
      let n' = numbers st (ms ++ m ∷ []) fit_all in
      record {
        houses = omega (arith, n.houses, rem.start.houses);
        currencies = omega (arith, n.currencies, rem.start.currencies);
        between = rw after_is (subst (λ ps. AllByRecursion (Between ps) (left_of st (ms ++ m ∷ [])).due) (sym n.houses) (all_between thin st.houses st.rates st.currencies (ms ++ m ∷ []) fit_all));
        roomy = rw after_is (all_roomy thin st.houses st.rates st.currencies (ms ++ m ∷ []) fit_all);
        short = λ k a b. rw after_is (omega (arith, sums_short_lem thin st.houses st.rates st.currencies k a b (ms ++ m ∷ []) fit_all (omega (arith, length-append ms (m ∷ []), fits.2)), few_all));
      }

  -- what stands in the memory once the new deals are in it, and then the deals of the day
  module _ (deals₁ deals₂ : List ℕ) (rates₂ : List ℤ) (payments₂ : List ℕ) (n cs count : ℕ) (n_is : n ≡ mem.house.deals + parts.deals) (cs_is : cs ≡ min st.currencies 64)
      (long : 16384 * n ≤ length mem.deals) (enough : 13 * (pair_count (all_deals (ms ++ m ∷ [])) * st.currencies) ≤ length mem.payments) (room : 4097 * st.rates ≤ length mem.rates)
      (same₁ : length deals₁ ≡ length mem.deals) (same₂ : length deals₂ ≡ length deals₁) (same_rates : length rates₂ ≡ length mem.rates)
      (opens : OpensAll st bytes parts.deals mem.house.deals mem.deals deals₁) (keeps : KeepsRates st.rates mem.house.day bytes parts.rates_at mem.rates rates₂)
      (settles : Settles mem.house.day n cs deals₁ mem.payments count deals₂ payments₂) where
    kept_today : KeptToday deals₁ n (left_of st ms) m
    unfolding deals_today
    kept_today =
        record {
          many = today_many ∙ sym n_is;
          long = omega (arith, long, same₁);
          keeps = λ c lt.
              opens mem.house.day m.deals parts.rates_at (left_of st ms).held rem.start.currencies laid.deals (early st.houses st.rates st.currencies (length ms) m fits.0) (held_many ∙ sym rem.many)
              (λ d below. rem.left (omega (arith, n_is, long, rem.many)) d (omega (arith, rem.many))) c (omega (arith, n_is));
        }

    paid_few : 13 * length (payments (happens (left_of st ms) m)) ≤ length mem.payments
    paid_few = rw after_is (omega (arith, payments_few thin st.houses st.rates st.currencies (ms ++ m ∷ []) rem.start.houses rem.start.currencies fit_all, enough))

    settled : Settled n (left_of st ms) m mem.payments count deals₂ payments₂
    settled =
        let k = numbers st ms rem.fit in
        settles (left_of st ms) m (k.number ∙ sym rem.days) (k.currencies ∙ omega (arith, cs_is, rem.start.currencies)) kept_today bounded paid_few

    pub paid_all : pairs.Written mem.payments (net_payments st (ms ++ m ∷ [])) count payments₂
    paid_all =
        let k = numbers st (ms ++ m ∷ []) fit_all in
        let is : map as_bytes (payments (happens (left_of st ms) m)) ≡ net_payments st (ms ++ m ∷ []) =
        ap (λ h. map as_bytes (payments h)) after_is
        ∙ net_lines st (ms ++ m ∷ []) (left_of st (ms ++ m ∷ [])) k.houses k.currencies (λ k a b. house_pays thin st.houses st.rates st.currencies k a b (ms ++ m ∷ []) fit_all) in
        subst (λ ps. pairs.Written mem.payments ps count payments₂) is
        (to_shared mem.payments (payments (happens (left_of st ms) m)) count payments₂ settled.paid)

    rates_all : HoldsRates rates₂ st.rates (all_days (ms ++ m ∷ []))
    rates_all =
        subst (HoldsRates rates₂ st.rates) (sym (all_days_push ms m))
        (keeps (all_days ms) m.day (length_all_days ms ∙ sym rem.days)
        (λ k lt. handed_out.1 st.rates 0 parts.rates_at laid.rates.0 k bytes m.day.rates (pos 0) laid.rates.1 lt) (rem.rates room))

    pub remains_all : (day : ℕ) (work : List ℕ) → day ≡ mem.house.day + 1 →
        Remains (record { house = record { start = mem.house.start; day = day; deals = n }; deals = deals₂; rates = rates₂; work = work; payments = payments₂ }) (ms ++ m ∷ [])
    remains_all day work day_is =
        record {
          start = rem.start;
          fit = fit_all;
          days = day_is ∙ omega (arith, rem.days, length-append ms (m ∷ []));
          in_time = omega (arith, length-append ms (m ∷ []), fits.2);
          many = n_is ∙ sym many_all;
          few = few_all;
          left = λ enough c lt. subst (λ h. Keeps deals₂ c (get_or h.held c gone)) after_is (settled.keeps c (omega (arith, many_all, n_is)));
          rates = λ enough. rates_all;
        }
