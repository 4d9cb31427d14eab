-- What is taken is in bounds. Assumes nothing.
use Rattle.std.proofs.Common.{◌≡◌, ℕ, zero, suc, ◌+◌, ◌<◌, ◌≤◌, List, [], ◌∷◌, length, get_or, ℤ, nat_abs, ap, ◌∙◌, subst, arith, length-append}
use Rattle.std.specs.List.{AllByRecursion}
use Rattle.deals.specs.Contract.{Deal, Choice, Morning, all_deals}
use Rattle.deals.specs.Promise.{Fit}
use Rattle.octets.proofs.Words.{word_below}
use Rattle.texts.specs.Stages.{built_at}
use Rattle.texts.specs.declared.stages.Stage.{Stage}
use Rattle.mornings.specs.Verdict.{taken, Reading, right, goes, Row}
use Rattle.mornings.specs.Judgement.{a_contract, few, DealRead, RateRead, StepRead, ChoiceRead, StartRead, MorningRead}
use Rattle.mornings.specs.Written.{StartFits}
use Rattle.mornings.specs.Laws.{JudgedAll, no_more, one_more, TakenFits}
use Rattle.mornings.proofs.InBounds.{DealFits, ChoiceFits, MorningFits, fit_more}
use Rattle.mornings.specs.declared.Start.{Start}

pub row_length : {A : Type 0} (R : ℕ → Reading A) (s : List ℕ) (n c i : ℕ) (xs : List A) (j : ℕ) → Row n R c s i (taken xs j) → length xs ≡ n
row_length R s zero c i xs j e = let z : xs ≡ [] = cc in ap length z
row_length R s (suc n) c i xs j (goes {a = x} h (goes {a = ys} {j = to} r e)) = let z : xs ≡ x ∷ ys = cc in ap length z ∙ ap suc (row_length R s n (suc c) _ ys to r)

row_all : {A : Type 0} (P : A → Type 0) (R : ℕ → Reading A) (s : List ℕ) → ((c i : ℕ) (a : A) (j : ℕ) → R c s i (taken a j) → P a) → (n c i : ℕ) (xs : List A) (j : ℕ) → Row n R c s i (taken xs j) → AllByRecursion P xs
row_all P R s f zero c i xs j e = let z : [] ≡ xs = cc in subst (AllByRecursion P) z tt
row_all P R s f (suc n) c i xs j (goes {a = x} {j = k} h (goes {a = ys} {j = to} r e)) =
    let z : x ∷ ys ≡ xs = cc in subst (AllByRecursion P) z (f c i x k h, row_all P R s f n (suc c) k ys to r)

start_fits : (s : List ℕ) (st : Start) (j : ℕ) → StartRead s 0 (taken st j) → StartFits st
start_fits s st j (goes (right _ h) (goes (right _ r) (goes (right _ c) (goes _ e)))) =
    let z : record { houses = _; rates = _; currencies = _ } ≡ st = cc in
    subst StartFits z (record { houses = h; rates = r; currencies = c })

deal_fits : (stage : Stage) (st : Start) (day c : ℕ) (s : List ℕ) (i : ℕ) (d : Deal) (j : ℕ) → DealRead stage st day c s i (taken d j) → DealFits stage st day d
deal_fits stage st day c s i d j (few _ (goes (right _ h) (goes (right _ o) (goes (right _ f) (goes _ (goes (a_contract x _ _ t b) e)))))) =
    let z : record { holder = _; other = _; contract = x; from = _ } ≡ d = cc in
    subst (DealFits stage st day) z (record { holder = h; other = o.0; two = o.1; not_over = f.0; from = f.1; contract = t.fits; built = b })

rate_fits : (s : List ℕ) (i : ℕ) (a : ℤ) (j : ℕ) → RateRead s i (taken a j) → nat_abs a ≤ 1000000000
rate_fits s i a j (right _ h) = h

step_fits : (s : List ℕ) (i b j : ℕ) → StepRead s i (taken b j) → b ≤ 1
step_fits s i b j (right _ h) = h

choice_fits : (s : List ℕ) (i : ℕ) (c : Choice) (j : ℕ) → ChoiceRead s i (taken c j) → ChoiceFits c
choice_fits s i c j (goes (right _ h) (goes {a = n} {j = k} (right _ l) (goes {a = way} {j = to} r e))) =
    let long = row_length (λ _. StepRead) s _ 0 _ way to r in
    let short : length way ≤ 64 = omega arith in
    let z : record { of = _; at = way } ≡ c = cc in
    subst ChoiceFits z (record { deal = h; long = short; steps = row_all (λ b. b ≤ 1) (λ _. StepRead) s (λ _ i b j. step_fits s i b j) _ 0 _ way to r })

-- where the last deal has a number, there is room for all
pub deals_room : (stage : Stage) (st : Start) (day : ℕ) (s : List ℕ) (n c i : ℕ) (ds : List Deal) (j : ℕ) → c ≤ 65536 → Row n (DealRead stage st day) c s i (taken ds j) → c + n ≤ 65536
deals_room stage st day s zero c i ds j le e = omega arith
deals_room stage st day s (suc n) c i ds j le (goes (few lt _) (goes {a = ys} {j = to} r e)) = let h = deals_room stage st day s n (suc c) _ ys to (omega arith) r in omega arith

morning_fits : (stage : Stage) (st : Start) (day so_far : ℕ) (s : List ℕ) (m : Morning) (j : ℕ) → ((k : ℕ) → get_or s k 0 < 256) → so_far ≤ 65536 → MorningRead stage st day so_far s 0 (taken m j) → MorningFits stage st day so_far m
morning_fits stage st day so_far s m j bytes room (few lt (goes (right h _) (goes {a = ds} {j = d} deals (goes {a = rs} {j = r} rates (goes (right g _) (goes {a = cs} {j = k} choices (goes _ e))))))) =
    let z : record { deals = ds; day = record { rates = rs; choices = cs } } ≡ m = cc in
    let some = row_length (DealRead stage st day) s _ so_far _ ds d deals in
    let many = row_length (λ _. ChoiceRead) s _ 0 _ cs k choices in
    let few_deals = word_below 2 s 0 h bytes in
    let few-choices = word_below 2 s r g bytes in
    let all = deals_room stage st day s _ so_far _ ds d room deals in
    subst (MorningFits stage st day so_far) z (record {
      in_time = lt;
      room = omega arith;
      new_deals = omega arith;
      deals = row_all (DealFits stage st day) (DealRead stage st day) s (λ c i a j. deal_fits stage st day c s i a j) _ so_far _ ds d deals;
      all_rates = row_length (λ _. RateRead) s st.rates 0 d rs r rates;
      rates = row_all (λ a. nat_abs a ≤ 1000000000) (λ _. RateRead) s (λ _ i a j. rate_fits s i a j) st.rates 0 d rs r rates;
      all_choices = omega arith;
      choices = row_all ChoiceFits (λ _. ChoiceRead) s (λ _ i c j. choice_fits s i c j) _ 0 _ cs k choices;
    })

-- a morning that is taken is one of the first 65,536
pub on_a_day : {stage : Stage} {st : Start} {day n : ℕ} {s : List ℕ} {m : Morning} {j : ℕ} → MorningRead stage st day n s 0 (taken m j) → day < 65536
on_a_day (few h r) = h

-- mornings one after the other
judged_fits : (stage : Stage) (st : Start) (day so_far : ℕ) (ms : List Morning) → day ≤ 65536 → so_far ≤ 65536 → JudgedAll stage st day so_far ms → Fit (built_at stage) st.houses st.rates st.currencies day ms × (so_far + length (all_deals ms) ≤ 65536) × (day + length ms ≤ 65536)
unfolding Fit all_deals
judged_fits stage st day so_far _ early room no_more = (tt, omega arith, omega arith)
judged_fits stage st day so_far _ early room (one_more {m = m} {ms = ms} s bytes h rest) =
    let f = morning_fits stage st day so_far s m (length s) bytes room h in
    let ih = judged_fits stage st (suc day) (so_far + length m.deals) ms f.in_time f.room rest in
    (fit_more stage st day so_far m ms f ih.0, omega (arith, ih.1, length-append m.deals (all_deals ms)), omega (arith, ih.2))

pub taken_fits : TakenFits
taken_fits = (start_fits, judged_fits)
