use Rattle.texts.proofs.Mapped.{handed_on}
use Rattle.texts.proofs.Parts.{a_word, by_end, then_took, then_stops, stops_then, calm_took, calm_stops}
use Rattle.std.proofs.Common.{[], ◌∷◌, ◌∙◌, subst, w64, SFits, rules}
use Rattle.deals.specs.Contract.{fixed}
use Rattle.std.proofs.lemmas.Int.{to_z-of_z}
use Rattle.texts.specs.declared.nodes.Node.TheVariants.{Fixed}
use Rattle.texts.specs.Nodes.{Grown}
use Rattle.texts.proofs.FigureParts.{fixed_as, fixed_stops}
use Rattle.texts.proofs.Notes.{noted_then, noted_took}
use Rattle.texts.proofs.figures.fixed.Goals as goal

pub returns-in_err-a : goal.returns-in_err-a
returns-in_err-a c =
    handed_on _ _ _ _ c.from_residual.ensures.1 (fixed_stops c.args.text.now c.args.at c.args.end.byte c.requires.opens (stops_then (by_end c.args.end.plain) a_word c.in_err-a.ensures))

pub returns-in_err-to : goal.returns-in_err-to
returns-in_err-to c =
    handed_on _ _ _ _ c.from_residual-in_err-to.ensures.1 (fixed_stops c.args.text.now c.args.at c.args.end.byte c.requires.opens (then_stops (by_end c.args.end.plain) c.in_ok-a.ensures.2 (calm_stops c.in_err-to.ensures)))

pub returns : goal.returns
returns c =
    let a = c.in_ok-a.ensures in
    let fits : SFits w64 c.in_ok-a.a = search rules in (
      fixed a.0,
      fixed_as c.args.text.now c.args.at c.args.end.byte c.requires.opens (then_took (by_end c.args.end.plain) a.2 (calm_took c.in_ok-to.ensures)),
      subst (λ v. Grown c.args.read.now.tree c.push.new.self (Fixed v ∷ [])) (to_z-of_z w64 c.in_ok-a.a fits ∙ a.1) c.push.ensures,
      noted_then (noted_took a.2) (noted_took c.in_ok-to.ensures),
    )
