use Rattle.settlement.proofs.Runs.{one_answer, none_remains, anything_else, pays_the_same, runs_pay, runs_later, runs_within, model_pays}
use Rattle.settlement.proofs.runs_stand.Goals as goal

pub returns : goal.returns
returns c = record { one = one_answer; none = none_remains; other = anything_else; same = pays_the_same; pay = runs_pay; later = runs_later; within = runs_within; model = model_pays }
