use Rattle.std.proofs.Common.{◌≡◌, ℕ, ◌+◌, ◌*◌, ◌/◌, ◌%◌, ◌<◌, ◌≤◌, length, get_or, sym, subst, ⊎_elim, arith}
use Rattle.deals.specs.Promise.{size}
use Rattle.deals.specs.Payments.{nobody, adds}
use Rattle.replay.specs.Adding.{GrownBy, OwesIt}
use Rattle.replay.specs.Settle.{owed_by}
use Rattle.replay.proofs.Ordering.{no_deal}
use Rattle.replay.proofs.Paying.{Paying, paying_start, paying_last, paying_same, paying_other, adds_small, owed_is, owed_many}
use Rattle.replay.proofs.settle.pay_keys.Goals as goal

pub loop-key-init : goal.loop-key-init
loop-key-init c due ordered zeros room = paying_start (length c.args.sums.now) c.args.payments.now (owed_by due c.args.keys.now) c.args.sums.now zeros

pub loop-key-preserved : goal.loop-key-preserved
loop-key-preserved c due ordered zeros room =
    let cs = length c.args.sums.now in
    let was = c.args.payments.now in
    let keys = c.args.keys.now in
    let os = owed_by due keys in
    let i = c.loop-key.key-index in
    let q = c.loop-key.pair in
    let lt : i < length keys = c.loop-key-test.true in
    let number = get_or keys i 0 % 65536 in
    let inside : number < length c.args.deals.now = ordered.numbers i lt in
    let o = get_or due number nobody in
    let p = c.loop-key.invariant due ordered zeros room in
    let long : length c.loop-key.sums ≡ cs = omega arith in
    let few : i ≤ 65536 = omega (arith, ordered.few) in
    let many = owed_many due keys in
    let room' : 13 * (length os * cs) ≤ length was = subst (λ n. 13 * (n * cs) ≤ length was) (sym many) room in
    let lt' : i < length os = omega arith in
    let sizes : (k : ℕ) → size (adds o k) ≤ 1099511627776 = λ k. adds_small o k 1099511627776 (ordered.small number k inside) in
    let grown = c.add_deal.ensures o (subst (λ d. OwesIt c.args.book.start c.args.book.days.kept.now c.args.book.days.days.now d number o) (sym (c.in-Some.ensures.lookup.3.1 no_deal)) (ordered.owe number no_deal inside)) in
    ⊎_elim
    (λ e. subst (λ n. Paying cs was os (i + 1) (get_or keys i 0 / 65536) n c.add_deal.new.sums c.turn_to-count.new.payments) (sym e.1)
    (subst (λ z. Paying cs was os (i + 1) (get_or keys i 0 / 65536) c.loop-key.count c.add_deal.new.sums z) (sym e.3)
    (paying_same cs was os i q c.loop-key.count c.loop-key.sums c.loop-key.payments long few room' p o lt' (owed_is due keys i lt) (get_or keys i 0 / 65536) (ordered.pairs i lt) (ordered.between number inside) sizes
    c.add_deal.new.sums e.0 (omega arith) (subst (λ z. GrownBy (adds o) z c.add_deal.new.sums) e.2 grown))))
    (λ e. paying_other cs was os i q c.loop-key.count c.loop-key.sums c.loop-key.payments long few room' p o lt' (owed_is due keys i lt) (get_or keys i 0 / 65536) (ordered.pairs i lt) (ordered.between number inside) sizes
    c.turn_to-count.result c.turn_to-count.new.sums c.add_deal.new.sums c.turn_to-count.new.payments e.0 (omega arith) e.1 (omega arith) grown)
    c.turn_to-count.ensures

pub returns : goal.returns
returns c due ordered zeros room =
    let cs = length c.args.sums.now in
    let was = c.args.payments.now in
    let os = owed_by due c.args.keys.now in
    let many = owed_many due c.args.keys.now in
    paying_last cs was os c.loop-key.key-index c.loop-key.pair c.loop-key.count c.loop-key.sums c.loop-key.payments (omega arith) (omega (arith, ordered.few))
    (subst (λ n. 13 * (n * cs) ≤ length was) (sym many) room) (c.loop-key.invariant due ordered zeros room) c.pay_number.result c.pay_number.new.sums c.pay_number.new.payments (omega arith) c.pay_number.ensures
