use Rattle.texts.proofs.Mapped.{handed_on}
use Rattle.deals.specs.Contract.{nothing}
use Rattle.texts.proofs.Parts.{calm_took, calm_stops}
use Rattle.texts.proofs.ContractParts.{nothing_as, nothing_stops}
use Rattle.texts.proofs.Notes.{noted_took}
use Rattle.texts.proofs.contracts.nothing.Goals as goal

pub returns-in_err-to : goal.returns-in_err-to
returns-in_err-to c =
    handed_on _ _ _ _ c.from_residual.ensures.1 (nothing_stops c.args.text.now c.args.at c.requires.opens (calm_stops c.in_err-to.ensures))

pub returns : goal.returns
returns c = (nothing, nothing_as c.args.text.now c.args.at c.requires.opens (calm_took c.in_ok-to.ensures), c.push.ensures, noted_took c.in_ok-to.ensures)
