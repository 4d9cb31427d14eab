use Rattle.std.proofs.Common.{arith, suc, sym, refl, ◌∙◌}
use Rattle.texts.proofs.OneWord.{byte_is, byte_not}
use Rattle.std.proofs.lemmas.Result.{MatchResult-weaker}
use Rattle.texts.proofs.Numerals.{zero_took, number_took, number_stops}
use Rattle.texts.proofs.numbers.number.Goals as goal

pub returns-then-eq : goal.returns-then-eq
returns-then-eq c = (0, refl, zero_took c.args.text.now c.args.at (byte_is c.byte_at.result 48 (sym c.eq.ensures ∙ c.if-eq.true) c.byte_at.ensures))

pub returns : goal.returns
returns c = MatchResult-weaker c.positive.result c.positive.ensures
    (λ p t. (suc t.0, t.1, number_took c.args.text.now c.args.at p.1 (byte_not c.byte_at.result 48 (sym c.eq.ensures ∙ c.if-eq.false) c.byte_at.ensures (omega arith)) t.0 t.2))
    (λ p t. number_stops c.args.text.now c.args.at p (byte_not c.byte_at.result 48 (sym c.eq.ensures ∙ c.if-eq.false) c.byte_at.ensures (omega arith)) t)
