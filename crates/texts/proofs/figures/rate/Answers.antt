use Rattle.texts.proofs.Mapped.{handed_on}
use Rattle.texts.proofs.Parts.{◌also◌, free, then_took, then_stops, stops_then}
use Rattle.texts.proofs.FigureParts.{a_number, a_rate_end, by_rate_end, rate_as, rate_stops}
use Rattle.std.proofs.Common.{[], ◌∷◌, ◌++◌, subst}
use Rattle.deals.specs.Contract.{rate}
use Rattle.texts.specs.Ranges.{Counts}
use Rattle.texts.proofs.Notes.{noted_then, noted_map, noted_took, noted_number, rate_numerals}
use Rattle.texts.proofs.figures.rate.Goals as goal

pub returns-in_err-to : goal.returns-in_err-to
returns-in_err-to c =
    handed_on _ _ _ _ c.from_residual.ensures.1 (rate_stops c.args.text.now c.args.at c.args.end.byte c.requires.opens (stops_then free (a_number also a_rate_end) c.in_err-to.ensures))

pub returns-in_err-k : goal.returns-in_err-k
returns-in_err-k c =
    handed_on _ _ _ _ c.from_residual-in_err-k.ensures.1 (rate_stops c.args.text.now c.args.at c.args.end.byte c.requires.opens (then_stops free c.in_ok-to.ensures (stops_then (by_rate_end c.args.end.plain) a_rate_end c.in_err-k.ensures)))

pub returns-in_err-n : goal.returns-in_err-n
returns-in_err-n c =
    handed_on _ _ _ _ c.from_residual-in_err-n.ensures.1 (rate_stops c.args.text.now c.args.at c.args.end.byte c.requires.opens (then_stops free c.in_ok-to.ensures (then_stops (by_rate_end c.args.end.plain) c.in_ok-k.ensures.2 c.in_err-n.ensures)))

pub returns : goal.returns
returns c =
    let k = c.in_ok-k.ensures in
    let n = c.in_ok-n.ensures in (
      rate k.0 n.0,
      rate_as c.args.text.now c.args.at c.args.end.byte c.requires.opens (then_took free c.in_ok-to.ensures (then_took (by_rate_end c.args.end.plain) k.2 n.2)),
      rw (← k.1, ← n.1) c.push.ensures,
      noted_map (rate_numerals k.0 n.0 c.args.end.byte)
          (noted_then (noted_took c.in_ok-to.ensures)
          (noted_then (noted_number (λ rs cs. rs) (λ rs cs ks h. subst (λ l. Counts c.note.new.self rs cs (ks ++ record { place = c.in_ok-to.to; limit = l; value = k.0 } ∷ [])) h.rates_are (c.note.ensures rs cs k.0 ks h k.1)) k.2) n.3)),
    )
