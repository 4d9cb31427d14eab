use Rattle.std.proofs.lemmas.Option.{MatchOption-at_some, MatchOption-at_none}
use Rattle.std.proofs.lemmas.Result.{err_from_is_err_and}
use Rattle.texts.specs.declared.writing.WriteRefusal.TheVariants.{NoContract}
use Rattle.std.proofs.Common.{Some, None, ◌≡◌, ◌+◌, ◌≤◌, ◌++◌, length, drop, refl, ap, ◌∙◌, subst, arith}
use Rattle.texts.specs.Nodes.{Holds, nodes_of}
use Rattle.texts.specs.Spelling.{contract_spelled, NotSpelled, SpelledWhole}
use Rattle.texts.specs.Written.{written}
use Rattle.texts.proofs.Laying.{laid_room}
use Rattle.texts.proofs.Standing.{nodes_length}
use Rattle.texts.proofs.Rewritten.{held, spelled_row, row_of, row_some, wrote_out, only_row}
use Rattle.texts.proofs.writing.write_contract.Goals as goal

pub returns-in_err-long : goal.returns-in_err-long
returns-in_err-long c =
    let p = err_from_is_err_and c.from_residual.result c.from_residual.ensures.1 in
    let none : c.text_length.result ≡ None = grind (arith, c.in_err-long.was) in
    let is : p.0 ≡ NoContract = grind (arith, c.in_err-long.was, p.2) in
    rw (p.1, is) (λ x h few. MatchOption-at_none _ _ none c.text_length.ensures (written (held x)) (spelled_row x c.row-nodes.result.now (c.row-nodes.ensures.all (nodes_of x) h (omega (arith, nodes_length x))) few), refl)

pub returns-then-out-long : goal.returns-then-out-long
returns-then-out-long c =
    let some : c.text_length.result ≡ Some c.in_ok-long.long = grind (arith, c.in_ok-long.was) in
    let s = MatchOption-at_some (NotSpelled c.row-nodes.result.now) (SpelledWhole c.row-nodes.result.now) _ some c.text_length.ensures in
    let r = row_of c.row-nodes.result.now s.0 c.row-nodes.ensures.few s.1 in
    let held = c.row-nodes.ensures.held (row_some c.row-nodes.result.now s.0 (length c.row-nodes.result.now) s.1) in
    ((r.contract, subst (λ z. Holds c.args.tree.now z) r.nodes held, r.few, omega (arith, s.2, ap length r.text)), refl)

pub returns : goal.returns
returns c =
    let some : c.text_length.result ≡ Some c.in_ok-long.long = grind (arith, c.in_ok-long.was) in
    let s = MatchOption-at_some (NotSpelled c.row-nodes.result.now) (SpelledWhole c.row-nodes.result.now) _ some c.text_length.ensures in
    let r = row_of c.row-nodes.result.now s.0 c.row-nodes.ensures.few s.1 in
    let held = c.row-nodes.ensures.held (row_some c.row-nodes.result.now s.0 (length c.row-nodes.result.now) s.1) in
    let bytes = wrote_out (contract_spelled c.row-nodes.result.now 256 0) c.args.out.now c.write_at.new.out 0 0 (length c.row-nodes.result.now) (length c.row-nodes.result.now) s.0
    c.write_at.result c.write_at.ensures s.1 in
    let room : 0 + length s.0 ≤ length c.args.out.now = omega (arith, s.2) in
    let count : 0 + length s.0 ≡ c.in_ok-long.long = omega (arith, s.2) in
    record {
      contract = r.contract;
      held = subst (λ z. Holds c.args.tree.now z) r.nodes held;
      few = r.few;
      only = λ rs cs y p q fits h. only_row c.row-nodes.result.now s.0 r.contract rs cs y s.1 r.text p q fits (λ few. c.row-nodes.ensures.all (nodes_of y) h few);
      long = s.2 ∙ ap length r.text;
      room = c.if-out-long.false;
      whole = bytes ∙ laid_room c.args.out.now 0 s.0 room ∙ ap (λ n. s.0 ++ drop n c.args.out.now) count ∙ ap (λ z. z ++ drop c.in_ok-long.long c.args.out.now) r.text;
    }
