use Rattle.std.proofs.Common.{◌∙◌, arith}
use Rattle.texts.proofs.Laying.{put_as, decimal_written}
use Rattle.texts.proofs.writing.put_number.Goals as goal

pub returns : goal.returns
returns c = put_as (c.as_bytes.ensures.value ∙ c.format.ensures.text ∙ decimal_written c.args.n (omega arith)) c.put_word.ensures
