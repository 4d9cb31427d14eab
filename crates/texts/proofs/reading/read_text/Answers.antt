use Rattle.std.proofs.Common.{arith}
use Rattle.std.proofs.lemmas.Bool.Decides.{when_true, when_false}
use Rattle.std.proofs.lemmas.Result.{err_from_is_err_and}
use Rattle.texts.proofs.Mapped.{mapped_ok, mapped_err}
use Rattle.texts.specs.Bounds.{too_long, no_contract, past_limits}
use Rattle.texts.proofs.Ranged.{found, refused_number, taken_all}
use Rattle.texts.proofs.reading.read_text.Goals as goal

pub returns-then-text-gt8192 : goal.returns-then-text-gt8192
returns-then-text-gt8192 c rates currencies noted = (too_long c.if-text-gt8192.true, omega arith)

pub returns-in_err-map_err : goal.returns-in_err-map_err
returns-in_err-map_err c rates currencies noted =
    let p = err_from_is_err_and c.from_residual.result c.from_residual.ensures.1 in
    let r = mapped_err _ _ _ c.read_whole.result c.map_err.result _ c.read_whole.ensures c.map_err.ensures.cases c.in_err-map_err.was in
    rw (p.1, p.2, r.2) (no_contract c.if-text-gt8192.false r.1, r.1.within)

pub returns-then-not-within_limits : goal.returns-then-not-within_limits
returns-then-not-within_limits c rates currencies noted =
    let r = mapped_ok _ _ _ c.read_whole.result c.map_err.result _ c.read_whole.ensures c.map_err.ensures.cases c.in_ok-map_err.was in
    let far = when_false _ _ c.if-not-within_limits.true (c.within_limits.ensures r.contract r.read.held) in
    (past_limits r.contract c.if-text-gt8192.false r.read.text_of far, omega arith)

pub returns-in-Some : goal.returns-in-Some
returns-in-Some c rates currencies noted =
    let r = mapped_ok _ _ _ c.read_whole.result c.map_err.result _ c.read_whole.ensures c.map_err.ensures.cases c.in_ok-map_err.was in
    let near = when_true _ _ c.if-not-within_limits.false (c.within_limits.ensures r.contract r.read.held) in
    let f = found rates currencies c.args.text.now _ _ r.contract noted r.noted in
    refused_number rates currencies c.args.text.now r.contract _ c.in-Some.place f c.in-Some.is c.if-text-gt8192.false r.read.text_of near

pub returns-in-None : goal.returns-in-None
returns-in-None c rates currencies noted =
    let r = mapped_ok _ _ _ c.read_whole.result c.map_err.result _ c.read_whole.ensures c.map_err.ensures.cases c.in_ok-map_err.was in
    let near = when_true _ _ c.if-not-within_limits.false (c.within_limits.ensures r.contract r.read.held) in
    let f = found rates currencies c.args.text.now _ _ r.contract noted r.noted in
    (r.contract, taken_all rates currencies c.args.text.now r.contract _ f c.in-None.is c.if-text-gt8192.false r.read.text_of near, r.read.held)
