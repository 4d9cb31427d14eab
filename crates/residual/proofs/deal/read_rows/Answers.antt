use Rattle.std.proofs.Common.{◌∷◌, ◌++◌, [], sym, ap, ◌∙◌, arith}
use Rattle.std.proofs.lemmas.List.{take_more_set}
use Rattle.std.proofs.lemmas.List.FromFn.{map-range_with_len_more}
use Rattle.residual.specs.Layout.{row_at, first_rows}
use Rattle.residual.proofs.deal.read_rows.Goals as goal

pub loop-k-preserved : goal.loop-k-preserved
loop-k-preserved c =
    let part = c.args.part.now in
    let k = c.loop-k.k in
    take_more_set c.loop-k.row-items k c.read_row.result (omega arith)
    ∙ ap (λ zs. zs ++ c.read_row.result ∷ []) c.loop-k.invariant
    ∙ ap (λ r. first_rows part k ++ r ∷ []) c.read_row.ensures
    ∙ sym (map-range_with_len_more (row_at part) 0 k k (omega arith))
