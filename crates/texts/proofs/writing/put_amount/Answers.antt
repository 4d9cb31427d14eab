use Rattle.std.proofs.Common.{◌≡◌, ◌∙◌}
use Rattle.std.specs.Fmt.{signed_decimal}
use Rattle.std.proofs.lemmas.Int.{to_z-of_z}
use Rattle.texts.proofs.Laying.{put_as, natAbs_small, signed_written}
use Rattle.texts.proofs.writing.put_amount.Goals as goal

pub returns : goal.returns
returns c =
    let fits = c.ranges.a in
    let text : c.format.result.now ≡ signed_decimal c.args.a = simp to_z-of_z at c.format.ensures.text in
    put_as (c.as_bytes.ensures.value ∙ text ∙ signed_written c.args.a (natAbs_small c.args.a fits)) c.put_word.ensures
