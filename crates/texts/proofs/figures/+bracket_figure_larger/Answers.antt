use Rattle.texts.proofs.Mapped.{handed_on}
use Rattle.texts.proofs.Parts.{a_word, ◌also◌, by_words, free, by_end, then_took, then_stops, stops_then, calm_took, calm_stops}
use Rattle.texts.proofs.FigureParts.{a_figure, an_operator, by_operators, bracket_as, bracket_stops, larger_as, larger_stops}
use Rattle.std.proofs.Common.{[], ◌∷◌, ◌++◌, codes, refl, ap, ◌∙◌, subst}
use Rattle.std.proofs.lemmas.Result.{MatchResult-weaker}
use Rattle.deals.specs.Contract.{most}
use Rattle.texts.specs.Figures.{applied}
use Rattle.texts.specs.Nodes.{Holds, figure_nodes}
use Rattle.texts.specs.declared.nodes.Node.TheVariants.{Plus, Max}
use Rattle.texts.proofs.Rows.{grown_then, applied_nodes}
use Rattle.texts.specs.Bounds.{FigureNumerals}
use Rattle.texts.proofs.Notes.{noted_then, noted_map, noted_took, next_spelt, bracket_numerals}
use Rattle.texts.proofs.figures.+bracket_figure_larger.Goals as goal

pub bracket-returns-in_err-to : goal.bracket-returns-in_err-to
bracket-returns-in_err-to t c =
    handed_on _ _ _ _ c.from_residual.ensures.1 (bracket_stops c.args.text.now c.args.at c.args.end.byte c.requires.opens (stops_then free (a_figure also an_operator also a_word also a_figure also a_word) c.in_err-to.ensures))

pub bracket-returns-in_err-to-2 : goal.bracket-returns-in_err-to-2
bracket-returns-in_err-to-2 t c =
    handed_on _ _ _ _ c.from_residual-in_err-to-2.ensures.1 (bracket_stops c.args.text.now c.args.at c.args.end.byte c.requires.opens (then_stops free c.in_ok-to.ensures (stops_then (by_operators _) (an_operator also a_word also a_figure also a_word) c.in_err-to-2.ensures)))

pub bracket-returns-in_err-node : goal.bracket-returns-in_err-node
bracket-returns-in_err-node t c =
    handed_on _ _ _ _ c.from_residual-in_err-node.ensures.1 (bracket_stops c.args.text.now c.args.at c.args.end.byte c.requires.opens (then_stops free c.in_ok-to.ensures (then_stops (by_operators _) c.in_ok-to-2.ensures.1 (stops_then free (a_word also a_figure also a_word) c.in_err-node.ensures))))

pub bracket-returns-in_err-to-3 : goal.bracket-returns-in_err-to-3
bracket-returns-in_err-to-3 t c =
    handed_on _ _ _ _ c.from_residual-in_err-to-3.ensures.1 (bracket_stops c.args.text.now c.args.at c.args.end.byte c.requires.opens (then_stops free c.in_ok-to.ensures (then_stops (by_operators _) c.in_ok-to-2.ensures.1 (then_stops free c.in_ok-node.ensures.2 (stops_then free (a_figure also a_word) c.in_err-to-3.ensures)))))

pub bracket-returns-in_err-to-4 : goal.bracket-returns-in_err-to-4
bracket-returns-in_err-to-4 t c =
    handed_on _ _ _ _ c.from_residual-in_err-to-4.ensures.1 (bracket_stops c.args.text.now c.args.at c.args.end.byte c.requires.opens (then_stops free c.in_ok-to.ensures (then_stops (by_operators _) c.in_ok-to-2.ensures.1 (then_stops free c.in_ok-node.ensures.2 (then_stops free c.in_ok-to-3.ensures (stops_then (by_end c.args.end.plain) a_word c.in_err-to-4.ensures))))))

pub bracket-returns-in_err-to-5 : goal.bracket-returns-in_err-to-5
bracket-returns-in_err-to-5 t c =
    handed_on _ _ _ _ c.from_residual-in_err-to-5.ensures.1 (bracket_stops c.args.text.now c.args.at c.args.end.byte c.requires.opens (then_stops free c.in_ok-to.ensures (then_stops (by_operators _) c.in_ok-to-2.ensures.1 (then_stops free c.in_ok-node.ensures.2 (then_stops free c.in_ok-to-3.ensures (then_stops (by_end c.args.end.plain) c.in_ok-to-4.ensures.1 (calm_stops c.in_err-to-5.ensures)))))))

pub bracket-returns : goal.bracket-returns
bracket-returns t c =
    let e = c.in_ok-to-2.ensures in
    let o = c.in_ok-node.ensures in
    let g = c.in_ok-to-4.ensures in (
      applied o.0 e.0 g.0,
      bracket_as c.args.text.now c.args.at c.args.end.byte c.requires.opens (then_took free c.in_ok-to.ensures (then_took (by_operators _) c.in_ok-to-2.ensures.1 (then_took free c.in_ok-node.ensures.2 (then_took free c.in_ok-to-3.ensures (then_took (by_end c.args.end.plain) c.in_ok-to-4.ensures.1 (calm_took c.in_ok-to-5.ensures)))))),
      λ ns h.
          let within = figure_nodes e.0 ++ figure_nodes g.0 in
          let held = grown_then (Plus ∷ []) within c.push.ensures (grown_then (figure_nodes e.0) (figure_nodes g.0) e.2 g.2) ns h in
          let done = c.put.ensures ns within Plus held (c.count-slot.ensures ns h) in
          subst (λ m. Holds c.put.new.self (ns ++ m)) (ap (λ m. m ∷ within) o.1 ∙ applied_nodes o.0 e.0 g.0) done,
      noted_map (bracket_numerals o.0 e.0 g.0 c.args.end.byte)
          (noted_then (noted_took c.in_ok-to.ensures) (noted_then e.3 (noted_then (noted_took o.2) (noted_then (noted_took c.in_ok-to-3.ensures) (noted_then g.3 (noted_took c.in_ok-to-5.ensures)))))),
    )

pub larger-returns-in_err-to : goal.larger-returns-in_err-to
larger-returns-in_err-to t c =
    handed_on _ _ _ _ c.from_residual.ensures.1 (larger_stops c.args.text.now c.args.at c.args.end.byte c.requires.opens (stops_then free (a_figure also a_word also a_figure also a_word) c.in_err-to.ensures))

pub larger-returns-in_err-to-2 : goal.larger-returns-in_err-to-2
larger-returns-in_err-to-2 t c =
    handed_on _ _ _ _ c.from_residual-in_err-to-2.ensures.1 (larger_stops c.args.text.now c.args.at c.args.end.byte c.requires.opens (then_stops free c.in_ok-to.ensures (stops_then (by_words _ refl) (a_word also a_figure also a_word) c.in_err-to-2.ensures)))

pub larger-returns-in_err-to-3 : goal.larger-returns-in_err-to-3
larger-returns-in_err-to-3 t c =
    handed_on _ _ _ _ c.from_residual-in_err-to-3.ensures.1 (larger_stops c.args.text.now c.args.at c.args.end.byte c.requires.opens (then_stops free c.in_ok-to.ensures (then_stops (by_words _ refl) c.in_ok-to-2.ensures.1 (stops_then free (a_figure also a_word) c.in_err-to-3.ensures))))

pub larger-returns-in_err-to-4 : goal.larger-returns-in_err-to-4
larger-returns-in_err-to-4 t c =
    handed_on _ _ _ _ c.from_residual-in_err-to-4.ensures.1 (larger_stops c.args.text.now c.args.at c.args.end.byte c.requires.opens (then_stops free c.in_ok-to.ensures (then_stops (by_words _ refl) c.in_ok-to-2.ensures.1 (then_stops free c.in_ok-to-3.ensures (stops_then (by_end c.args.end.plain) a_word c.in_err-to-4.ensures)))))

pub larger-returns : goal.larger-returns
larger-returns t c =
    let e = c.in_ok-to-2.ensures in
    let g = c.in_ok-to-4.ensures in
    MatchResult-weaker c.byte.result c.byte.ensures
    (λ to h. (
      most e.0 g.0,
      larger_as c.args.text.now c.args.at c.args.end.byte c.requires.opens (then_took free c.in_ok-to.ensures (then_took (by_words _ refl) c.in_ok-to-2.ensures.1 (then_took free c.in_ok-to-3.ensures (then_took (by_end c.args.end.plain) c.in_ok-to-4.ensures.1 (calm_took (h)))))),
      grown_then (Max ∷ []) (figure_nodes e.0 ++ figure_nodes g.0) c.push.ensures (grown_then (figure_nodes e.0) (figure_nodes g.0) e.2 g.2),
      noted_map (λ rs cs w ns. next_spelt (FigureNumerals rs e.0) (FigureNumerals rs g.0) (codes "max(") (32 ∷ []) 44 c.args.end.byte w ns)
          (noted_then (noted_took c.in_ok-to.ensures) (noted_then e.3 (noted_then (noted_took c.in_ok-to-3.ensures) (noted_then g.3 (noted_took h))))),
    ))
    (λ to h. larger_stops c.args.text.now c.args.at c.args.end.byte c.requires.opens (then_stops free c.in_ok-to.ensures (then_stops (by_words _ refl) c.in_ok-to-2.ensures.1 (then_stops free c.in_ok-to-3.ensures (then_stops (by_end c.args.end.plain) c.in_ok-to-4.ensures.1 (calm_stops (h)))))))
