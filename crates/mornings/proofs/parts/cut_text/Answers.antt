use Rattle.mornings.proofs.Texts.{is_off, is_short, is_past, is_end}
use Rattle.mornings.proofs.parts.cut_text.Goals as goal

pub returns-in-Ok : goal.returns-in-Ok
returns-in-Ok c =
    let x = c.in-Ok.ensures in
    is_short c.args.today.stage c.args.today.start c.args.n c.args.bytes.now c.args.at c.requires.small c.requires.past c.requires.within x.0 x.1

pub returns-in-Err-Limit : goal.returns-in-Err-Limit
returns-in-Err-Limit c =
    is_past c.args.today.stage c.args.today.start c.args.n c.args.bytes.now c.args.at c.requires.small c.requires.past c.requires.within
    c.in-Err-Limit.field-0 c.in-Err-Limit._p c.in-Err-Limit.field-0-is c.in-Err-Limit.ensures.0

pub returns-then-p-bytes : goal.returns-then-p-bytes
returns-then-p-bytes c =
    is_off c.args.today.stage c.args.today.start c.args.n c.args.bytes.now c.args.at c.requires.small c.requires.past c.requires.within
    c.in-Err-NoContract.field-0 c.in-Err-NoContract.p c.in-Err-NoContract.field-0-is c.in-Err-NoContract.ensures.0 c.if-p-bytes.true

pub returns-else-p-bytes : goal.returns-else-p-bytes
returns-else-p-bytes c =
    is_end c.args.today.stage c.args.today.start c.args.n c.args.bytes.now c.args.at c.requires.small c.requires.past c.requires.within
    c.in-Err-NoContract.field-0 c.in-Err-NoContract.p c.in-Err-NoContract.field-0-is c.in-Err-NoContract.ensures.0 c.if-p-bytes.false
