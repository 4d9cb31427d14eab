use Rattle.std.proofs.Common.{sym, ◌∙◌, arith}
use Rattle.std.proofs.lemmas.Result.{err_from_is_err_and}
use Rattle.mornings.specs.Judgement.{too_long}
use Rattle.mornings.proofs.Texts.{few_marks, is_no_text, is_contract, is_not_built}
use Rattle.mornings.proofs.parts.text.Goals as goal

pub returns-then-n-gt8192 : goal.returns-then-n-gt8192
returns-then-n-gt8192 c = too_long c.if-n-gt8192.true

pub returns-in_err-read_part : goal.returns-in_err-read_part
returns-in_err-read_part c =
    let p = err_from_is_err_and c.from_residual.result c.from_residual.ensures.1 in
    let r = c.in_err-read_part.ensures.0 in
    rw p.1 (is_no_text c.args.today.stage c.args.today.start c.args.n c.args.bytes.now c.args.at (omega arith) _ r.0 _ _ (omega arith) r.1 r.2 p.2)

pub returns-then-not-built : goal.returns-then-not-built
returns-then-not-built c =
    let x = c.in_ok-read_part.ensures in
    let b = c.built.ensures x.0 x.2 (few_marks _ _ _ x.0 x.1) in
    is_not_built c.args.today.stage c.args.today.start c.args.n c.args.bytes.now c.args.at (omega arith) x.0 (omega arith) x.1 (sym b ∙ c.if-not-built.true)

pub returns : goal.returns
returns c =
    let x = c.in_ok-read_part.ensures in
    let b = c.built.ensures x.0 x.2 (few_marks _ _ _ x.0 x.1) in
    (x.0, is_contract c.args.today.stage c.args.today.start c.args.n c.args.bytes.now c.args.at (omega arith) x.0 (omega arith) x.1 (sym b ∙ c.if-not-built.false))
