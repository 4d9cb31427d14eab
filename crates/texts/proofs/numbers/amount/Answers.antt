use Rattle.texts.proofs.OneWord.{byte_is, byte_not}
use Rattle.texts.proofs.Mapped.{handed_on}
use Rattle.std.proofs.Common.{pos, negsuc, sym, ◌∙◌, arith}
use Rattle.std.proofs.lemmas.Int.{ints}
use Rattle.texts.proofs.Numerals.{plain_took, plain_stops, minus_took, minus_stops}
use Rattle.texts.proofs.numbers.amount.Goals as goal

pub returns-in_err-n : goal.returns-in_err-n
returns-in_err-n c =
    handed_on _ _ _ _ c.from_residual.ensures.1 (minus_stops c.args.text.now c.args.at _ (byte_is c.byte_at.result 45 (sym c.eq.ensures ∙ c.if-eq.true) c.byte_at.ensures) c.in_err-n.ensures)

pub returns-then-eq : goal.returns-then-eq
returns-then-eq c =
    let t = c.in_ok-n.ensures in
    (negsuc t.0, omega (arith, ints, t.1, c.signed.ensures), minus_took c.args.text.now c.args.at c.in_ok-n.to (byte_is c.byte_at.result 45 (sym c.eq.ensures ∙ c.if-eq.true) c.byte_at.ensures) t.0 t.2)

pub returns-in_err-n-2 : goal.returns-in_err-n-2
returns-in_err-n-2 c =
    handed_on _ _ _ _ c.from_residual-in_err-n-2.ensures.1 (plain_stops c.args.text.now c.args.at _ (byte_not c.byte_at.result 45 (sym c.eq.ensures ∙ c.if-eq.false) c.byte_at.ensures (omega arith)) c.in_err-n-2.ensures)

pub returns : goal.returns
returns c =
    let t = c.in_ok-n-2.ensures in
    (pos t.0, omega (arith, ints, t.1, c.signed-2.ensures), plain_took c.args.text.now c.args.at c.in_ok-n-2.to (byte_not c.byte_at.result 45 (sym c.eq.ensures ∙ c.if-eq.false) c.byte_at.ensures (omega arith)) t.0 t.2)
