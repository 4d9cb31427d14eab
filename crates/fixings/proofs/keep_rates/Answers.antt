use Rattle.std.proofs.Common.{◌≡◌, ◌+◌, ◌-◌, ◌*◌, ◌%◌, ◌≤◌, length, get_or, drop, pos, sym, ap, ◌∙◌, inl, inr, ⊎_elim, arith}
use borrow.Rule.Slice.PartMut.{put_mid}
use Rattle.std.proofs.lemmas.List.{length-take, length-drop}
use Rattle.fixings.proofs.Slots.{row_end, one_more_day, put_length, put_there, put_apart}
use Rattle.fixings.proofs.keep_rates.Goals as goal

pub returns-clause-kept : goal.returns-clause-kept
returns-clause-kept c ds d many rates h =
    let told = c.in-Some.ensures in
    let first = c.in-Some.first in
    let n = first + c.args.n - first in
    let is : length ds % 4097 * c.args.n ≡ first = ap (λ z. z % 4097 * c.args.n) many ∙ sym told.1 in
    let within : first + n ≤ length c.args.words.now = omega (arith, told.0, told.1, row_end (c.args.day % 4097) 4097 c.args.n (omega arith)) in
    let long : length c.loop-k.word-items ≡ n = omega (arith, c.loop-k.auto.word-items, length-take n (drop first c.args.words.now), length-drop first c.args.words.now, within) in
    let after = put_mid first n c.args.words.now c.loop-k.word-items in
    one_more_day c.args.words.now after c.args.n ds d (put_length c.args.words.now c.loop-k.word-items first n long within)
    (λ k lt. ap (λ z. get_or after (z + k) (pos 0)) is ∙ put_there c.args.words.now c.loop-k.word-items first n long within k (omega arith) ∙ c.loop-k.invariant k (omega arith) ∙ sym (rates k lt).0)
    (λ i out. put_apart c.args.words.now c.loop-k.word-items first n long within i (⊎_elim (λ l. inl (omega (arith, is))) (λ l. inr (omega (arith, is))) out)) h
