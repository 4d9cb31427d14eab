use Rattle.std.proofs.Common.{refl}
use Rattle.texts.proofs.FirstOut.{first_none}
use Rattle.texts.proofs.ranges.Ranges.new.Goals as goal

pub returns : goal.returns
returns c = record { rates_are = refl; currencies_are = refl; first_is = first_none }
