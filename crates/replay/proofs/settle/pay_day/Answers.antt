use Rattle.std.proofs.Common.{◌≡◌, ℕ, ◌-◌, ◌*◌, ◌<◌, ◌≤◌, length, get_or, take, sym, refl, ap, ◌∙◌, subst, arith, length-take}
use native.Mathlib.Nat.{sub-zero}
use Rattle.std.specs.List.Sorted.{IsPermutation, IsNonDecreasing}
use Rattle.std.proofs.lemmas.Result.{err_from_is_err_and}
use Rattle.deals.specs.Contract.{all_deals}
use Rattle.replay.specs.Order.{keys_from}
use Rattle.mornings.specs.Pairs.{Written}
use Rattle.replay.specs.Settle.{owed_by, grouped_payments}
use Rattle.replay.proofs.InTurn.{ok_none, ok_some}
use Rattle.replay.proofs.Judged.{Matches, matches_long}
use Rattle.replay.proofs.Settled.{due, listed, few_deals, listed_none, listed_some, ordered, paid}
use Rattle.replay.proofs.settle.pay_day.Goals as goal

pub returns-in_err-n : goal.returns-in_err-n
returns-in_err-n c =
    let p = err_from_is_err_and c.from_residual.result c.from_residual.ensures.1 in
    let none = ok_none c.list_deals.result c.ok_or.result c.in_err-n.field-0.0 c.ok_or.ensures.value c.in_err-n.was in
    rw (p.1, p.2, none.1)
    (refl, λ ms stand some. listed_none c.args.start c.args.kept.now c.args.days.now ms (λ k. (c.type_inv.kept k).fits) stand some c.args.deals.now c.list_deals.new.deals c.list_deals.result c.list_deals.ensures none.0)

pub returns-then-n-deals : goal.returns-then-n-deals
returns-then-n-deals c = (
  refl,
  λ ms stand some.
      let full = listed_some c.args.start c.args.kept.now c.args.days.now ms (λ k. (c.type_inv.kept k).fits) stand some c.args.deals.now c.list_deals.new.deals c.list_deals.result c.in_ok-n.n c.list_deals.ensures (ok_some c.list_deals.result c.ok_or.result c.in_ok-n.n c.ok_or.ensures.value c.in_ok-n.was) in
      absurd (omega (arith, full.1)),
)

pub returns-then-n-keys : goal.returns-then-n-keys
returns-then-n-keys c = (
  refl,
  λ ms stand some.
      let full = listed_some c.args.start c.args.kept.now c.args.days.now ms (λ k. (c.type_inv.kept k).fits) stand some c.args.deals.now c.list_deals.new.deals c.list_deals.result c.in_ok-n.n c.list_deals.ensures (ok_some c.list_deals.result c.ok_or.result c.in_ok-n.n c.ok_or.ensures.value c.in_ok-n.was) in
      omega (arith, full.0, few_deals c.args.start c.args.kept.now c.args.days.now ms (λ k. (c.type_inv.kept k).fits) stand some),
)

pub returns-then-payments-n : goal.returns-then-payments-n
returns-then-payments-n c = (
  refl,
  λ ms stand some.
      let st = c.args.start in
      let n = (listed_some c.args.start c.args.kept.now c.args.days.now ms (λ k. (c.type_inv.kept k).fits) stand some c.args.deals.now c.list_deals.new.deals c.list_deals.result c.in_ok-n.n c.list_deals.ensures (ok_some c.list_deals.result c.ok_or.result c.in_ok-n.n c.ok_or.ensures.value c.in_ok-n.was)).0 in
      let coins : c.min-currencies.result ≡ st.currencies = omega (arith, stand.start.currencies) in
      let product : c.in_ok-n.n * c.min-currencies.result ≡ length (all_deals ms) * st.currencies = (λ i. n i * coins i) in
      omega arith,
)

pub returns : goal.returns
returns c ms stand some =
    let st = c.args.start in
    let kept = c.args.kept.now in
    let days = c.args.days.now in
    let was = c.args.payments.now in
    let typed : (k : ℕ) → get_or kept k 0 < 256 = λ k. (c.type_inv.kept k).fits in
    let n = c.in_ok-n.n in
    let l = listed st kept days ms typed stand some in
    let full = listed_some c.args.start c.args.kept.now c.args.days.now ms (λ k. (c.type_inv.kept k).fits) stand some c.args.deals.now c.list_deals.new.deals c.list_deals.result c.in_ok-n.n c.list_deals.ensures (ok_some c.list_deals.result c.ok_or.result c.in_ok-n.n c.ok_or.ensures.value c.in_ok-n.was) in
    let xs = take (n - 0) c.list_deals.new.deals in
    let is : xs ≡ l.0 = ap (λ m. take m c.list_deals.new.deals) (sub-zero n) ∙ full.2 in
    let matches = subst (λ z. Matches st kept days z (all_deals ms)) (sym is) l.2 in
    let many : length xs ≡ n - 0 = ap length is ∙ omega (arith, full.0, matches_long st kept days l.0 (all_deals ms) l.2) in
    let keys = take (n - 0) c.order_deals.new.keys in
    let shuffled : IsPermutation (keys_from 0 xs) keys = subst (λ m. IsPermutation (keys_from 0 xs) (take m c.order_deals.new.keys)) many c.order_deals.ensures.shuffled in
    let rising : IsNonDecreasing keys = subst (λ m. IsNonDecreasing (take m c.order_deals.new.keys)) many c.order_deals.ensures.rising in
    let coins : c.min-currencies.result ≡ st.currencies = omega (arith, stand.start.currencies) in
    let owing = due st kept days ms typed stand some in
    let long : length keys ≡ n = length-take (n - 0) c.order_deals.new.keys ∙ omega arith in
    let room : 13 * (length keys * c.min-currencies.result) ≤ length was = subst (λ m. 13 * (m * c.min-currencies.result) ≤ length was) (sym long) (omega arith) in
    let written = c.pay_sorted.ensures owing (ordered st kept days ms typed stand some xs matches keys shuffled) room in
    subst (λ z. Written was z c.pay_sorted.result c.pay_sorted.new.payments) (ap (λ m. grouped_payments m (owed_by owing keys)) coins ∙ paid st kept days ms typed stand some xs matches keys shuffled rising) written
