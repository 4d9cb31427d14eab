use Rattle.std.proofs.Common.{◌++◌, get_or, arith}
use Rattle.std.proofs.lemmas.Bool.Decides.{nat_tests}
use Rattle.texts.specs.Spelling.{Put, between_word, behind_word}
use Rattle.texts.specs.declared.nodes.Node.TheVariants.{Nothing}
use Rattle.texts.proofs.Laying.{put_then, put_as}
use Rattle.texts.proofs.FirstWords.{between_short, behind_short}
use Rattle.texts.proofs.Spelled.{figure_none, figure_step}
use Rattle.texts.proofs.writing.+write_figure.Goals as goal

pub returns-then-falling-eq0 : goal.returns-then-falling-eq0
returns-then-falling-eq0 t c = grind (arith, nat_tests, figure_none)

pub returns-then-not-figural : goal.returns-then-not-figural
returns-then-not-figural t c = grind (arith, nat_tests, figure_step)

pub returns-in_err-next : goal.returns-in_err-next
returns-in_err-next t c = grind (arith, nat_tests, figure_step)

pub returns-then-single : goal.returns-then-single
returns-then-single t c =
    let f = c.in_ok-next.ensures in
    let behind = f.put.behind in
    record {
      text = f.word;
      is = grind (arith, nat_tests, figure_step);
      put = f.put;
      on = omega arith;
      within = omega arith;
      low = omega (arith, f.short);
    }

pub returns-in_err-behind : goal.returns-in_err-behind
returns-in_err-behind t c = grind (arith, nat_tests, figure_step)

pub returns-in_err-behind-2 : goal.returns-in_err-behind-2
returns-in_err-behind-2 t c = grind (arith, nat_tests, figure_step)

pub returns : goal.returns
returns t c =
    let f = c.in_ok-next.ensures in
    let x = c.in_ok-behind.ensures in
    let y = c.in_ok-behind-2.ensures in
    let node = get_or c.args.nodes.now c.args.at Nothing in
    let m : Put c.write_figure.new.out c.put_word-next.new.out c.in_ok-behind.next (between_word node) c.put_word-next.result =
    put_as c.middle.ensures c.put_word-next.ensures in
    let e : Put c.write_figure-2.new.out c.put_word.new.out c.in_ok-behind-2.next (behind_word node) c.put_word.result =
    put_as c.ending.ensures c.put_word.ensures in
    record {
      text = f.word ++ (x.text ++ (between_word node ++ (y.text ++ behind_word node)));
      is = grind (arith, nat_tests, figure_step);
      put = put_then f.put (put_then x.put (put_then m (put_then y.put e)));
      on = omega (arith, x.on, y.on);
      within = y.within;
      low = omega (arith, f.short, f.put.behind, x.low, m.behind, y.low, e.behind, between_short node, behind_short node);
    }
