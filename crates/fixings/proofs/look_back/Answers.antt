use Rattle.std.proofs.Common.{◌+◌, get_or, pos, ap, ◌∙◌, ⊎_elim, arith, w64, SFits, rules}
use Rattle.std.proofs.lemmas.Int.{to_z-of_z}
use Rattle.fixings.proofs.Slots.{rate_before, rate_none}
use Rattle.fixings.proofs.look_back.Goals as goal

pub returns-then-before-day-clause-looks : goal.returns-then-before-day-clause-looks
returns-then-before-day-clause-looks c ds many few near h =
    ⊎_elim (λ lt. rate_none ds c.args.day c.args.k c.args.before lt) (λ w. absurd (omega (arith, w.1))) c.then-before-day.either

pub returns-clause-looks : goal.returns-clause-looks
returns-clause-looks c ds many few near h =
    let told = c.in-Some.ensures in
    let fits : SFits w64 (get_or c.args.words.now (c.in-Some.first + c.args.k) (pos 0)) = search rules in
    to_z-of_z w64 _ fits
    ∙ ap (λ z. get_or c.args.words.now (z + c.args.k) (pos 0)) told.1
    ∙ rate_before c.args.words.now c.args.n ds c.args.day c.args.k c.args.before many few near (omega arith) h
