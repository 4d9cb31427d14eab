use Rattle.std.proofs.Common.{ap, ◌∙◌, arith}
use Rattle.settlement.proofs.Pairs.{kept_more}
use Rattle.settlement.proofs.counting.count_kept.Goals as goal

pub loop-c-preserved : goal.loop-c-preserved
loop-c-preserved c dd many few inside stand none =
    let at = stand c.loop-c.c (omega arith) in
    kept_more c.loop-c.seen c.count_pair-count.new.seen c.loop-c.count c.count_pair-count.result c.read_entry-e.result.holder c.read_entry-e.result.other c.loop-c.c dd (omega (arith, many)) (omega (arith, many)) inside
    (ap (λ e. e.holder) c.read_entry-e.ensures ∙ at.holder) (ap (λ e. e.other) c.read_entry-e.ensures ∙ at.other) c.count_pair-count.ensures (c.loop-c.invariant dd many few inside stand none)
