use Rattle.std.proofs.lemmas.Bool.{not-true, not-false}
use Rattle.texts.proofs.OneWord.{byte_is, byte_not, byte_took}
use Rattle.texts.proofs.Mapped.{handed_on}
use Rattle.std.proofs.Common.{◌+◌, sym, refl, ◌∙◌, subst, inl, inr, arith}
use Rattle.std.proofs.lemmas.Bool.Decides.{when_true, when_false}
use Rattle.texts.specs.Reading.{NoDigit, Took}
use Rattle.texts.specs.Figures.{RateEnding}
use Rattle.texts.proofs.RateEnd.{end_took, end_stops, space_took, n_took, n_stops_end, n_stops}
use Rattle.texts.proofs.Notes.{noted_then, noted_map, noted_took, noted_number}
use Rattle.texts.proofs.figures.rate_end.Goals as goal

pub returns-in_err-to : goal.returns-in_err-to
returns-in_err-to c =
    handed_on _ _ _ _ c.from_residual.ensures.1 (end_stops c.args.text.now c.args.at _ c.args.end.byte (byte_not c.byte_at.result 32 (not-true _ (sym c.ne.ensures ∙ c.if-ne.true)) c.byte_at.ensures (omega arith)) c.in_err-to.ensures)

pub returns-then-ne : goal.returns-then-ne
returns-then-ne c = (
  0,
  refl,
  end_took c.args.text.now c.args.at c.in_ok-to.to c.args.end.byte (byte_not c.byte_at.result 32 (not-true _ (sym c.ne.ensures ∙ c.if-ne.true)) c.byte_at.ensures (omega arith)) c.in_ok-to.ensures,
  noted_map (λ rs cs w ns h. inr (refl, h)) (noted_took c.in_ok-to.ensures),
)

pub returns-then-not-asks_number : goal.returns-then-not-asks_number
returns-then-not-asks_number c =
    let f = when_false _ _ c.if-not-asks_number.true c.asks_number.ensures in (
      0,
      refl,
      subst (λ e. Took NoDigit (RateEnding e) c.args.text.now c.args.at (c.args.at + 1) 0) (sym f.0)
          (space_took c.args.text.now c.args.at (byte_is c.byte_at.result 32 (not-false _ (sym c.ne.ensures ∙ c.if-ne.false)) c.byte_at.ensures) f.1),
      noted_map (λ rs cs w ns h. inr (refl, h)) (noted_took (byte_took c.args.text.now c.args.at c.args.end.byte (byte_is c.byte_at.result 32 (not-false _ (sym c.ne.ensures ∙ c.if-ne.false)) c.byte_at.ensures ∙ sym f.0) (omega (arith, f.0)))),
    )

pub returns-in_err-n : goal.returns-in_err-n
returns-in_err-n c =
    handed_on _ _ _ _ c.from_residual-in_err-n.ensures.1 (n_stops c.args.text.now c.args.at _ c.args.end.byte (byte_is c.byte_at.result 32 (not-false _ (sym c.ne.ensures ∙ c.if-ne.false)) c.byte_at.ensures) (when_true _ _ c.if-not-asks_number.false c.asks_number.ensures) c.args.end.plain c.in_err-n.ensures)

pub returns-in_err-to-2 : goal.returns-in_err-to-2
returns-in_err-to-2 c =
    let n = c.in_ok-n.ensures in
    handed_on _ _ _ _ c.from_residual-in_err-to-2.ensures.1 (n_stops_end c.args.text.now c.args.at _ c.args.end.byte (byte_is c.byte_at.result 32 (not-false _ (sym c.ne.ensures ∙ c.if-ne.false)) c.byte_at.ensures) (when_true _ _ c.if-not-asks_number.false c.asks_number.ensures) c.args.end.plain n.0 _ n.2 c.in_err-to-2.ensures)

pub returns : goal.returns
returns c =
    let n = c.in_ok-n.ensures in (
      n.0,
      n.1,
      n_took c.args.text.now c.args.at c.in_ok-to-2.to c.args.end.byte (byte_is c.byte_at.result 32 (not-false _ (sym c.ne.ensures ∙ c.if-ne.false)) c.byte_at.ensures) (when_true _ _ c.if-not-asks_number.false c.asks_number.ensures) c.args.end.plain n.0 _ n.2 c.in_ok-to-2.ensures,
      noted_map (λ rs cs w ns h. inl h) (noted_then (noted_took (byte_took c.args.text.now c.args.at 32 (byte_is c.byte_at.result 32 (not-false _ (sym c.ne.ensures ∙ c.if-ne.false)) c.byte_at.ensures) (omega arith))) (noted_then (noted_number (λ _ _. 4097) (λ rs cs ks h. c.note.ensures rs cs n.0 ks h n.1) n.2) (noted_took c.in_ok-to-2.ensures))),
    )
