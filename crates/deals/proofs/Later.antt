-- Days and deals to come change nothing of what is paid on a day.
use Rattle.std.proofs.Common.{◌≡◌, ℕ, suc, ◌+◌, ◌-◌, ◌<◌, ◌≤◌, Bool, true, false, ltb, eqb, ◌&&◌, List, [], ◌∷◌, ◌++◌, length, pos, ◌+ℤ◌, neg_ℤ, sym, refl, ap, ◌∙◌, ap₂, subst, inl, inr, arith, append_assoc}
use lib.IntN.{+ℤ_assoc, +ℤ_idl, +ℤ_idr}
use Rattle.std.specs.List.{AllByRecursion}
use Rattle.std.proofs.ByRecursion.{All-append, All-weaker}
use Rattle.std.proofs.lemmas.Bool.{cases_Bool, ne_eqb, ltb-false}
use Rattle.deals.specs.Contract.{Contract, Day, Deal, Flow, Morning, pick, flows, on_that_day, owed, net, all_days, all_deals}
use Rattle.deals.specs.Promise.{Fit, before_day, PastStays}
use Rattle.deals.specs.Later.{net_on, LaterMornings}
use Rattle.deals.proofs.Days.{flows_within, past_stays_lem}
use Rattle.deals.proofs.Left.{none_earlier}
use Rattle.deals.proofs.House.{each_deal, length_all_days}

-- what flows on a day among what flows before another
on_before : (n t k : ℕ) (fs : List Flow) → t < n → on_that_day t k (before_day n fs) ≡ on_that_day t k fs
unfolding on_that_day before_day
on_before n t k [] h = refl
on_before n t k (f ∷ fs) h =
    elim (cases_Bool (ltb f.on n)) [
      | inl e ↦ rw e (ap (λ z. pick (eqb f.on t && eqb f.currency k) f.amount (pos 0) +ℤ z) (on_before n t k fs h))
      | inr e ↦ rw (e, other e) (on_before n t k fs h ∙ sym (+ℤ_idl (on_that_day t k fs)))
    ]
  where
    other : ltb f.on n ≡ false → eqb f.on t ≡ false
    other e = ne_eqb f.on t (λ is. let late = ltb-false f.on n e in let clash : ⊥ = omega (arith, is, late) in clash)

flow_stays : (ds es : List Day) (c t k from : ℕ) (x : Contract) → t < length ds → on_that_day t k (flows (ds ++ es) c [] x from) ≡ on_that_day t k (flows ds c [] x from)
unfolding PastStays
flow_stays ds es c t k from x h =
    sym (on_before (length ds) t k (flows (ds ++ es) c [] x from) h) ∙ ap (on_that_day t k) (past_stays_lem ds es c from [] x)

-- days to come
owed_stays : (ds es : List Day) (t k a b c : ℕ) (dd : List Deal) → t < length ds → owed (ds ++ es) t k a b c dd ≡ owed ds t k a b c dd
unfolding owed
owed_stays ds es t k a b c [] h = refl
owed_stays ds es t k a b c (d ∷ dd) h = rw (flow_stays ds es c t k d.from d.contract h, owed_stays ds es t k a b (suc c) dd h)

-- deals to come
owed_later : (ds : List Day) (t k a b c : ℕ) (dd : List Deal) → AllByRecursion (λ d. t < d.from) dd → owed ds t k a b c dd ≡ pos 0
unfolding owed
owed_later ds t k a b c [] later = refl
owed_later ds t k a b c (d ∷ dd) later =
    rw (owed_later ds t k a b (suc c) dd later.1, none_earlier ds d.from t k later.0 (flows ds c [] d.contract d.from) (flows_within ds c d.contract [] d.from)) (nothing (eqb d.other a && eqb d.holder b) (eqb d.holder a && eqb d.other b))
  where
    nothing : (p q : Bool) → pick p (pos 0) (pick q (neg_ℤ (pos 0)) (pos 0)) +ℤ pos 0 ≡ pos 0
    nothing true q = refl
    nothing false true = refl
    nothing false false = refl

owed_append : (ds : List Day) (t k a b c : ℕ) (xs ys : List Deal) → owed ds t k a b c (xs ++ ys) ≡ owed ds t k a b c xs +ℤ owed ds t k a b (c + length xs) ys
unfolding owed
owed_append ds t k a b c [] ys = ap (λ n. owed ds t k a b n ys) (omega arith) ∙ sym (+ℤ_idl (owed ds t k a b (c + 0) ys))
owed_append ds t k a b c (x ∷ xs) ys =
    rw (owed_append ds t k a b (suc c) xs ys, one_more) (sym (+ℤ_assoc _ (owed ds t k a b (suc c) xs) (owed ds t k a b (c + length (x ∷ xs)) ys)))
  where
    one_more : suc c + length xs ≡ c + length (x ∷ xs)
    one_more = omega arith

deals_append : (xs ys : List Morning) → all_deals (xs ++ ys) ≡ all_deals xs ++ all_deals ys
unfolding all_deals
deals_append [] ys = refl
deals_append (x ∷ xs) ys = ap (λ z. x.deals ++ z) (deals_append xs ys) ∙ sym (append_assoc x.deals (all_deals xs) (all_deals ys))

days_append : (xs ys : List Morning) → all_days (xs ++ ys) ≡ all_days xs ++ all_days ys
unfolding all_days
days_append [] ys = refl
days_append (x ∷ xs) ys = ap (λ z. x.day ∷ z) (days_append xs ys)

-- deals of mornings from day t on begin on that day or later
from_then : (built : Contract → Bool) (ps rs cs t : ℕ) (ms : List Morning) → Fit built ps rs cs t ms → AllByRecursion (λ d. t ≤ d.from) (all_deals ms)
unfolding Fit all_deals
from_then built ps rs cs t [] f = tt
from_then built ps rs cs t (m ∷ ms) f =
    All-append (λ d. t ≤ d.from) m.deals (all_deals ms) (each_deal (λ d. t ≤ d.from) m.deals (λ j d l e. (f.3 j d l e).3))
    (All-weaker (λ d. suc t ≤ d.from) (λ d. t ≤ d.from) (λ d h. omega arith) (all_deals ms) (from_then built ps rs cs (suc t) ms f.6))

fit_back : (built : Contract → Bool) (ps rs cs t : ℕ) (xs ys : List Morning) → Fit built ps rs cs t (xs ++ ys) → Fit built ps rs cs (t + length xs) ys
unfolding Fit
fit_back built ps rs cs t [] ys f = subst (λ n. Fit built ps rs cs n ys) (omega arith) f
fit_back built ps rs cs t (x ∷ xs) ys f = subst (λ n. Fit built ps rs cs n ys) one_more (fit_back built ps rs cs (suc t) xs ys f.6)
  where
    one_more : suc t + length xs ≡ t + length (x ∷ xs)
    one_more = omega arith

pub later_mornings_lem : LaterMornings
unfolding net net_on
later_mornings_lem built ps rs cs k a b ms later f one =
    let t = length ms - 1 in
    let early : t < length (all_days ms) = omega (arith, length_all_days ms) in
    let behind : AllByRecursion (λ d. t < d.from) (all_deals later) =
    All-weaker (λ d. 0 + length ms ≤ d.from) (λ d. t < d.from) (λ d h. omega arith) (all_deals later) (from_then built ps rs cs (0 + length ms) later (fit_back built ps rs cs 0 ms later f)) in
    ap₂ (λ ds dd. owed ds t k a b 0 dd) (days_append ms later) (deals_append ms later)
    ∙ owed_append (all_days ms ++ all_days later) t k a b 0 (all_deals ms) (all_deals later)
    ∙ ap (λ z. owed (all_days ms ++ all_days later) t k a b 0 (all_deals ms) +ℤ z) (owed_later (all_days ms ++ all_days later) t k a b (0 + length (all_deals ms)) (all_deals later) behind)
    ∙ +ℤ_idr (owed (all_days ms ++ all_days later) t k a b 0 (all_deals ms))
    ∙ owed_stays (all_days ms) (all_days later) t k a b 0 (all_deals ms) early
