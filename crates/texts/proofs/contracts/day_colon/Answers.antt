use Rattle.texts.proofs.Mapped.{handed_on}
use Rattle.texts.proofs.Parts.{a_word, by_end, then_took, then_stops, stops_then}
use Rattle.std.proofs.Common.{refl}
use Rattle.texts.proofs.ContractParts.{day_as, day_colon_stops}
use Rattle.texts.proofs.contracts.day_colon.Goals as goal

pub returns-in_err-d : goal.returns-in_err-d
returns-in_err-d c =
    handed_on _ _ _ _ c.from_residual.ensures.1 (day_colon_stops (stops_then (by_end refl) a_word c.in_err-d.ensures))

pub returns-in_err-to : goal.returns-in_err-to
returns-in_err-to c =
    handed_on _ _ _ _ c.from_residual-in_err-to.ensures.1 (day_colon_stops (then_stops (by_end refl) c.in_ok-d.ensures.2 c.in_err-to.ensures))

pub returns : goal.returns
returns c =
    let d = c.in_ok-d.ensures in
    (d.0, d.1, day_as (then_took (by_end refl) d.2 c.in_ok-to.ensures))
