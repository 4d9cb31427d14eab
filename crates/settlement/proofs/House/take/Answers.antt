use Rattle.std.proofs.Common.{ℕ, ◌*◌, ◌<◌, ◌≤◌, length, get_or, refl, arith}
use Rattle.deals.specs.Contract.{all_deals}
use Rattle.std.proofs.lemmas.Result.{err_from_is_err_and}
use Rattle.mornings.specs.Verdict.{refused}
use Rattle.mornings.specs.Judgement.{fault_of}
use Rattle.mornings.proofs.Fits.{on_a_day}
use Rattle.settlement.specs.declared.room.Lent.TheVariants.{Rates, Payments}
use Rattle.settlement.specs.Remains.{memory, refuses, is_short, takes}
use Rattle.settlement.proofs.Taking.{on_the_day, whole, stand, few_all, first_short, paid_all, remains_all}
use Rattle.settlement.proofs.House.take.Goals as goal

pub returns-in_err-parts : goal.returns-in_err-parts
returns-in_err-parts c =
    let p = err_from_is_err_and c.from_residual.result c.from_residual.ensures.1 in
    let m = memory c.args.self.now c.args.deals.now c.args.rates.now c.args.work.now c.args.payments.now in
    rw (p.1, p.2)
    (record {
      unchanged = refl {a = m};
      judged = c.in_err-parts.ensures;
      answers = λ ms rem. refuses (on_the_day m ms c.args.bytes.now (refused (fault_of c.in_err-parts.field-0.0)) rem c.in_err-parts.ensures);
    })

pub returns-in_err-n : goal.returns-in_err-n
returns-in_err-n c =
    let p = err_from_is_err_and c.from_residual-in_err-n.result c.from_residual-in_err-n.ensures.1 in
    let m = memory c.args.self.now c.args.deals.now c.args.rates.now c.args.work.now c.args.payments.now in
    let judged = c.in_ok-parts.ensures in
    let small : (k : ℕ) → get_or c.args.bytes.now k 0 < 256 = λ k. (c.type_inv.bytes k).fits in
    rw (p.1, p.2)
    (record {
      unchanged = refl {a = m};
      judged = (judged.0, judged.1.whole);
      answers = λ ms rem.
          is_short (whole m ms rem c.args.bytes.now small c.in_ok-parts.parts judged.0 judged.1)
          (first_short m ms rem c.args.bytes.now small c.in_ok-parts.parts judged.0 judged.1 c.args.sums.now c.in_err-n.field-0.0 c.in_err-n.ensures);
    })

pub returns : goal.returns
returns c =
    let m = memory c.args.self.now c.args.deals.now c.args.rates.now c.args.work.now c.args.payments.now in
    let judged = c.in_ok-parts.ensures in
    let small : (k : ℕ) → get_or c.args.bytes.now k 0 < 256 = λ k. (c.type_inv.bytes k).fits in
    let parts = c.in_ok-parts.parts in
    let room = c.in_ok-n.ensures.safe in
    record {
      unchanged = tt;
      judged = (judged.0, judged.1.whole);
      answers = λ ms rem.
          let before : 16384 * length (all_deals ms) ≤ length c.args.deals.now = omega (arith, rem.many, room.many, room.deals) in
          let long = c.in_ok-n.ensures.means _ (stand m ms rem c.args.bytes.now small parts judged.0 judged.1 before) (few_all m ms rem c.args.bytes.now small parts judged.0 judged.1) in
          record {
            morning = judged.0;
            answer = takes (whole m ms rem c.args.bytes.now small parts judged.0 judged.1) long;
            start = refl;
            remains =
                remains_all m ms rem c.args.bytes.now small parts judged.0 judged.1 c.open_deals.new.deals c.settle-count.new.deals c.keep_rates.new.words c.settle-count.new.payments c.in_ok-n.n c.min-currencies.result c.settle-count.result
                room.many c.min-currencies.ensures room.deals (long Payments) (long Rates) c.open_deals.auto.deals c.settle-count.auto.deals c.keep_rates.auto.words c.open_deals.ensures c.keep_rates.ensures.kept c.settle-count.ensures
                c.saturating_add-self.result c.settle-count.new.work (omega (arith, c.saturating_add-self.ensures, on_a_day judged.1.whole));
            paid =
                paid_all m ms rem c.args.bytes.now small parts judged.0 judged.1 c.open_deals.new.deals c.settle-count.new.deals c.keep_rates.new.words c.settle-count.new.payments c.in_ok-n.n c.min-currencies.result c.settle-count.result
                room.many c.min-currencies.ensures room.deals (long Payments) (long Rates) c.open_deals.auto.deals c.settle-count.auto.deals c.keep_rates.auto.words c.open_deals.ensures c.keep_rates.ensures.kept c.settle-count.ensures;
          };
    }
