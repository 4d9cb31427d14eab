use Rattle.mornings.proofs.Verdicts.{one_verdict}
use Rattle.mornings.proofs.Handed.{handed_out, walked}
use Rattle.mornings.proofs.Taken.{written_taken, every_taken, pieces_judged, never_same}
use Rattle.mornings.proofs.Chains.{pieces_stand}
use Rattle.mornings.proofs.Fits.{taken_fits}
use Rattle.mornings.proofs.Local.{front_to_back}
use Rattle.mornings.proofs.laws_stand.Goals as goal

pub returns : goal.returns
returns c = record { one = one_verdict; handed = handed_out; walked = walked; written = written_taken; every = every_taken; pieces = pieces_stand; judged = pieces_judged; bounds = taken_fits; apart = never_same; front = front_to_back }
