use Rattle.std.proofs.Common.{sym, ◌∙◌, arith}
use Rattle.std.proofs.lemmas.Bool.{not-true}
use Rattle.texts.proofs.OneWord.{byte_not, word_stops}
use Rattle.texts.proofs.words.word.Goals as goal

pub returns-then-ne : goal.returns-then-ne
returns-then-ne c =
    word_stops c.args.text.now c.args.expected.now c.args.at c.loop-b.to c.loop-b.b-index (omega arith) c.loop-b.invariant.1 c.loop-b-test.true c.loop-b.invariant.2 (byte_not c.byte_at.result _ (not-true _ (sym c.ne.ensures ∙ c.if-ne.true)) c.byte_at.ensures (omega (arith, c.type_inv.expected c.loop-b.b-index)))
