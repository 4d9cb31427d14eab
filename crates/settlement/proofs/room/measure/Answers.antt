use Rattle.settlement.proofs.Lengths.{few_bytes, too_many, no_rates, no_work, room_for_all, no_payments, no_sums, all_long}
use Rattle.settlement.proofs.room.measure.Goals as goal
use Rattle.settlement.proofs.room.measure.Goals.{then-n-gt-DEALS-via-then-n-gt-DEALS, then-n-gt-DEALS-via-else-n-gt-DEALS+then-lent-n}

pub returns-then-n-gt-DEALS : goal.returns-then-n-gt-DEALS
returns-then-n-gt-DEALS c =
    elim c.then-n-gt-DEALS.branch [
      | then-n-gt-DEALS-via-then-n-gt-DEALS w ↦ too_many c.args.start c.args.deals.now c.args.first c.args.bytes.now c.args.new c.args.lent w.if-n-gt-DEALS.true
      | then-n-gt-DEALS-via-else-n-gt-DEALS+then-lent-n w ↦ few_bytes c.args.start c.args.deals.now c.args.first c.args.bytes.now c.args.new c.args.lent w.if-lent-n.true
    ]

pub returns-then-lent-start : goal.returns-then-lent-start
returns-then-lent-start c = no_rates c.args.start c.args.deals.now c.args.first c.args.bytes.now c.args.new c.args.lent c.if-lent-n.false c.if-lent-start.true

pub returns-then-lent-lt-WORK : goal.returns-then-lent-lt-WORK
returns-then-lent-lt-WORK c = no_work c.args.start c.args.deals.now c.args.first c.args.bytes.now c.args.new c.args.lent c.if-lent-n.false c.if-lent-start.false c.if-lent-lt-WORK.true

pub returns-then-min-n : goal.returns-then-min-n
returns-then-min-n c =
    room_for_all c.args.start c.args.deals.now c.args.first c.args.bytes.now c.args.new c.args.lent c.if-lent-n.false c.if-lent-start.false c.if-lent-lt-WORK.false c.if-n-gt-DEALS.false c.min.result c.min.ensures c.if-min-n.true

pub returns-then-lent-room : goal.returns-then-lent-room
returns-then-lent-room c =
    no_payments c.args.start c.args.deals.now c.args.first c.args.bytes.now c.args.new c.args.lent c.if-lent-n.false c.if-lent-start.false c.if-lent-lt-WORK.false c.if-n-gt-DEALS.false c.count_pairs.result c.min-2.result
    c.count_pairs.ensures c.min-2.ensures c.if-lent-room.true

pub returns-then-lent-room-2 : goal.returns-then-lent-room-2
returns-then-lent-room-2 c =
    no_sums c.args.start c.args.deals.now c.args.first c.args.bytes.now c.args.new c.args.lent c.if-lent-n.false c.if-lent-start.false c.if-lent-lt-WORK.false c.if-n-gt-DEALS.false c.count_pairs.result c.min-2.result
    c.count_pairs.ensures c.min-2.ensures c.if-lent-room.false c.if-lent-room-2.true

pub returns : goal.returns
returns c =
    all_long c.args.start c.args.deals.now c.args.first c.args.bytes.now c.args.new c.args.lent c.if-lent-n.false c.if-lent-start.false c.if-lent-lt-WORK.false c.if-n-gt-DEALS.false c.count_pairs.result c.min-2.result
    c.count_pairs.ensures c.min-2.ensures c.if-lent-room.false c.if-lent-room-2.false
