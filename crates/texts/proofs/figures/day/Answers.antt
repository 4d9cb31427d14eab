use Rattle.texts.proofs.Mapped.{handed_on}
use Rattle.texts.proofs.Parts.{a_word, free, then_took, then_stops, stops_then, calm_took, calm_stops}
use Rattle.deals.specs.Contract.{day}
use Rattle.texts.proofs.FigureParts.{day_as, day_stops}
use Rattle.texts.proofs.Notes.{noted_then, noted_took}
use Rattle.texts.proofs.figures.day.Goals as goal

pub returns-in_err-to : goal.returns-in_err-to
returns-in_err-to c =
    handed_on _ _ _ _ c.from_residual.ensures.1 (day_stops c.args.text.now c.args.at c.args.end.byte c.requires.opens (stops_then free a_word c.in_err-to.ensures))

pub returns-in_err-to-2 : goal.returns-in_err-to-2
returns-in_err-to-2 c =
    handed_on _ _ _ _ c.from_residual-in_err-to-2.ensures.1 (day_stops c.args.text.now c.args.at c.args.end.byte c.requires.opens (then_stops free c.in_ok-to.ensures (calm_stops c.in_err-to-2.ensures)))

pub returns : goal.returns
returns c = (
  day,
  day_as c.args.text.now c.args.at c.args.end.byte c.requires.opens (then_took free c.in_ok-to.ensures (calm_took c.in_ok-to-2.ensures)),
  c.push.ensures,
  noted_then (noted_took c.in_ok-to.ensures) (noted_took c.in_ok-to-2.ensures),
)
