use Rattle.std.proofs.Common.{length, get_or, subst}
use Rattle.std.specs.List.Sorted.{IsPermutation, IsNonDecreasing}
use Rattle.std.proofs.lemmas.List.Sorted.{IsNonDecreasingBy-from_sort}
use Rattle.deals.specs.House.{sees}
use Rattle.deals.specs.Payments.{gone, deals_today}
use Rattle.settlement.specs.Order.{words_waking}
use Rattle.settlement.proofs.Settling.{ready, settled}
use Rattle.settlement.proofs.settle.Goals as goal

pub returns : goal.returns
returns c h m num cs kept bounds fits =
    let ws = c.sort_unstable.new.self in
    let same : IsPermutation (words_waking c.args.t c.args.deals.now c.args.n) ws =
    subst (λ zs. IsPermutation zs ws) c.collect_waking-count.ensures.words c.sort_unstable.ensures.permutation in
    let up : IsNonDecreasing ws = IsNonDecreasingBy-from_sort (λ x. x) ws c.sort_unstable.ensures.sorted in
    settled c.args.t c.args.n c.args.deals.now h m num kept bounds c.requires.few c.args.currencies cs ws same up c.args.payments.now c.walk.result c.walk.new.deals c.walk.new.payments
    (c.walk.ensures c.args.n (sees h m) (λ d. get_or (deals_today h m) d gone)
    (ready c.args.t c.args.n c.args.deals.now h m num kept bounds c.requires.few c.args.currencies cs ws same up (length c.args.payments.now) fits))
