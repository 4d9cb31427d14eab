use Rattle.std.proofs.Common.{◌≡◌, ◌<◌, leb, ◌++◌, nat_abs, codes, sym, ap, ◌∙◌, arith, w64, SFits, rules}
use Rattle.std.proofs.lemmas.Bool.{leb-true}
use Rattle.std.proofs.lemmas.Int.{to_z-of_z}
use Rattle.texts.specs.Spelling.{first_word}
use Rattle.texts.specs.Written.{written_number, written_amount}
use Rattle.texts.proofs.FirstWords.{first_pays, first_fixed, first_rate, first_on, first_by, pays_short, rate_short, day_short}
use Rattle.texts.proofs.Laying.{amount_length}
use Rattle.texts.proofs.writing.put_first.Goals as goal

pub returns-else-not-held : goal.returns-else-not-held
returns-else-not-held c =
    let fits : SFits w64 c.in-Pays.a = search rules in
    let k : c.in-Pays.k < 18446744073709551616 = omega arith in
    let kept : c.held.result ≡ leb (nat_abs c.in-Pays.a) 9223372036854775807 = simp to_z-of_z at c.held.ensures in
    let small = leb-true (nat_abs c.in-Pays.a) 9223372036854775807 (sym kept ∙ c.if-not-held.false) in
    record {
      word = codes "pays " ++ (written_amount c.in-Pays.a ++ (codes " " ++ written_number c.in-Pays.k));
      is = ap first_word c.in-Pays.is ∙ first_pays c.in-Pays.k c.in-Pays.a k small;
      put = simp to_z-of_z at c.put_pays.ensures;
      short = pays_short c.in-Pays.k c.in-Pays.a k (omega (arith, small));
    }

pub returns-else-not-held-2 : goal.returns-else-not-held-2
returns-else-not-held-2 c =
    let fits : SFits w64 c.in-Fixed.a = search rules in
    let kept : c.held-in-Fixed.result ≡ leb (nat_abs c.in-Fixed.a) 9223372036854775807 = simp to_z-of_z at c.held-in-Fixed.ensures in
    let small = leb-true (nat_abs c.in-Fixed.a) 9223372036854775807 (sym kept ∙ c.if-not-held-2.false) in
    record {
      word = written_amount c.in-Fixed.a;
      is = ap first_word c.in-Fixed.is ∙ first_fixed c.in-Fixed.a small;
      put = simp to_z-of_z at c.put_amount.ensures;
      short = let l = amount_length c.in-Fixed.a (omega (arith, small)) in omega arith;
    }

pub returns-in-Rate : goal.returns-in-Rate
returns-in-Rate c =
    let k : c.in-Rate.k < 18446744073709551616 = omega arith in
    let n : c.in-Rate.n < 18446744073709551616 = omega arith in
    record { word = _; is = ap first_word c.in-Rate.is ∙ first_rate c.in-Rate.k c.in-Rate.n k n; put = c.put_rate.ensures; short = rate_short c.in-Rate.k c.in-Rate.n k n }

pub returns-in-On : goal.returns-in-On
returns-in-On c =
    let d : c.in-On.d < 18446744073709551616 = omega arith in
    record { word = _; is = ap first_word c.in-On.is ∙ first_on c.in-On.d d; put = c.put_day.ensures; short = day_short (codes "on ") c.in-On.d (omega arith) d }

pub returns-in-By : goal.returns-in-By
returns-in-By c =
    let d : c.in-By.d < 18446744073709551616 = omega arith in
    record { word = _; is = ap first_word c.in-By.is ∙ first_by c.in-By.d d; put = c.put_day-in-By.ensures; short = day_short (codes "by ") c.in-By.d (omega arith) d }
