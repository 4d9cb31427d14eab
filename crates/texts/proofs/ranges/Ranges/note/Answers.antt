use Rattle.texts.proofs.FirstOut.{first_here, first_kept}
use Rattle.std.proofs.Common.{arith}
use Rattle.texts.proofs.ranges.Ranges.note.Goals.{else-is_none-via-then-is_none+else-limit-number, else-is_none-via-else-is_none}
use Rattle.texts.proofs.ranges.Ranges.note.Goals as goal

pub returns-then-limit-number : goal.returns-then-limit-number
returns-then-limit-number c rs cs n ks h e = record {
  rates_are = h.rates_are;
  currencies_are = h.currencies_are;
  first_is = first_here c.args.self.now.first ks c.args.at c.args.number c.args.limit n c.if-is_none.ensures h.first_is e c.if-limit-number.true;
}

pub returns-else-is_none : goal.returns-else-is_none
returns-else-is_none c rs cs n ks h e = record {
  rates_are = h.rates_are;
  currencies_are = h.currencies_are;
  first_is = first_kept c.args.self.now.first ks c.args.at c.args.number c.args.limit n (grind (arith, c.else-is_none.either, c.is_none.ensures)) h.first_is e (omega arith);
}
