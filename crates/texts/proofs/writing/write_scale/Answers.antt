use Rattle.std.proofs.Common.{◌++◌, arith}
use Rattle.std.proofs.lemmas.Bool.Decides.{nat_tests}
use Rattle.texts.specs.Spelling.{Put, scale_word}
use Rattle.texts.proofs.Laying.{put_then, put_as}
use Rattle.texts.proofs.FirstWords.{scale_short}
use Rattle.texts.proofs.writing.write_scale.Goals as goal

pub returns : goal.returns
returns c =
    let x = c.in_ok-behind.ensures in
    let s : Put c.write_figure.new.out c.put_word.new.out c.in_ok-behind.next (scale_word c.args.node) c.put_word.result = put_as c.scaling.ensures c.put_word.ensures in
    record {
      text = x.text ++ scale_word c.args.node;
      is = grind (arith, nat_tests);
      put = put_then x.put s;
      on = x.on;
      within = x.within;
      low = omega (arith, x.low, s.behind, scale_short c.args.node);
    }
