use Rattle.texts.proofs.Ranged.{fits_by_text}
use Rattle.texts.proofs.Verdicts.{one_verdict, has_taken}
use Rattle.texts.proofs.verdicts_stand.Goals as goal

pub returns-clause-one : goal.returns-clause-one
returns-clause-one c = one_verdict

pub returns-clause-fits : goal.returns-clause-fits
returns-clause-fits c = fits_by_text

pub returns-clause-taken : goal.returns-clause-taken
returns-clause-taken c = has_taken
