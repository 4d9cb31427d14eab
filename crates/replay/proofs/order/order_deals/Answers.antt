use Rattle.std.proofs.Common.{◌≡◌, ◌-◌, ◌++◌, length, take, sym, subst, arith, ◌∙◌}
use borrow.Rule.Slice.PartMut.{post_of}
use Rattle.std.specs.List.Sorted.{IsNonDecreasing}
use Rattle.std.proofs.lemmas.List.{take_at, length-take}
use Rattle.std.proofs.lemmas.List.Sorted.{IsNonDecreasingBy-from_sort}
use Rattle.replay.proofs.order.order_deals.Goals as goal

pub returns-clause-rising : goal.returns-clause-rising
returns-clause-rising c =
    let n = length c.args.deals.now in
    let sorted = c.sort_unstable.new.self in
    let long : length sorted ≡ n = c.sort_unstable.ensures.len ∙ simp length-take (omega arith) in
    let front : take n (sorted ++ post_of 0 (n - 0) c.key_deals.new.keys) ≡ sorted = take_at sorted (post_of 0 (n - 0) c.key_deals.new.keys) n long in
    subst (λ zs. IsNonDecreasing zs) (sym front) (IsNonDecreasingBy-from_sort (λ x. x) sorted c.sort_unstable.ensures.sorted)
