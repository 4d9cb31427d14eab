use Rattle.std.proofs.Common.{◌-◌, sym, ⊎_elim, arith}
use Rattle.std.proofs.lemmas.Bool.Decides.{nat_tests}
use Rattle.std.proofs.lemmas.Int.{to_z-of_z}
use Rattle.replay.specs.Parts.{node_in}
use Rattle.replay.specs.Days.{rate_on}
use Rattle.replay.specs.Figure.{figure_of, figure_at}
use Rattle.replay.proofs.Steps.{figure_step, figure_zero, figure_past, figure_none}
use Rattle.replay.proofs.days.Days.+figure.Goals as goal

pub returns-then-n-eq0 : goal.returns-then-n-eq0
returns-then-n-eq0 t c =
    let rates = rate_on c.args.self.now.kept.now c.args.self.now.days.now in
    let node = node_in c.args.nodes.now in
    sym (⊎_elim (λ e. figure_zero rates node c.args.t c.args.n c.args.i e) (λ h. figure_past rates node c.args.t c.args.n c.args.i h.1) c.then-n-eq0.either)

pub returns-in-Fixed : goal.returns-in-Fixed
unfolding figure_of
returns-in-Fixed t c = grind (arith, nat_tests, to_z-of_z, figure_step)

pub returns-in-Rate : goal.returns-in-Rate
unfolding figure_of
returns-in-Rate t c = grind (arith, nat_tests, to_z-of_z, figure_step)

pub returns-in-Day : goal.returns-in-Day
unfolding figure_of
returns-in-Day t c = grind (arith, nat_tests, to_z-of_z, figure_step)

pub returns-in-Plus : goal.returns-in-Plus
unfolding figure_of
returns-in-Plus t c = grind (arith, nat_tests, to_z-of_z, figure_step)

pub returns-in_default : goal.returns-in_default
returns-in_default t c =
    let rates = rate_on c.args.self.now.kept.now c.args.self.now.days.now in
    let node = node_in c.args.nodes.now in
    let r = c.in_default in
    let none = figure_none rates node c.args.t (figure_at rates node c.args.t (c.args.n - 1)) c.args.i c.node-node.result r.not-Fixed r.not-Rate r.not-Day r.not-Plus r.not-Minus r.not-Times r.not-Max r.not-Less in
    grind (arith, nat_tests, figure_step)
