use Rattle.std.proofs.Common.{◌≡◌, ◌+◌, ◌-◌, ◌*◌, ◌<◌, sym, ap, ◌∙◌, arith}
use Rattle.std.specs.List.{between}
use Rattle.texts.specs.Text.{spelt, digit}
use Rattle.texts.specs.Reading.{byte_at, capped}
use Rattle.texts.proofs.Numerals.{positive_stops, positive_took, digits_more, spelt_more, digit_within, capped_more, clash, first_zero, first_above}
use Rattle.texts.proofs.numbers.positive.Goals as goal

pub returns-then-unwrap_or-eq0 : goal.returns-then-unwrap_or-eq0
returns-then-unwrap_or-eq0 c = positive_stops c.args.text.now c.args.at c.requires (first_zero _ c.digit_at.result c.digit_at.ensures (sym c.unwrap_or.ensures ∙ c.if-unwrap_or-eq0.true))

pub loop-d-preserved : goal.loop-d-preserved
loop-d-preserved c =
    let here = c.in-Some.ensures in
    let near = digit_within c.args.text.now c.loop-d.to here.0 in
    let sofar = spelt 0 (between c.args.at c.loop-d.to c.args.text.now) in
    let d : byte_at c.args.text.now c.loop-d.to - 48 ≡ c.from.result = omega (arith, here.1, c.from.ensures) in (
      omega arith,
      omega arith,
      digits_more c.args.text.now c.args.at c.loop-d.to c.loop-d.invariant.0 near c.loop-d.invariant.2 here.0,
      c.saturating_add-value.ensures
          ∙ capped_more sofar c.from.result c.loop-d.value c.saturating_mul.result c.loop-d.invariant.3 c.saturating_mul.ensures
          ∙ ap capped (ap (λ n. sofar * 10 + n) (sym d) ∙ sym (spelt_more c.args.text.now c.args.at c.loop-d.to c.loop-d.invariant.0 near)),
    )

pub returns : goal.returns
returns c =
    let text = c.args.text.now in
    let first = first_above (byte_at text c.args.at) c.digit_at.result c.digit_at.ensures (λ e. c.if-unwrap_or-eq0.false (c.unwrap_or.ensures ∙ e)) in
    let last = c.in_default.ensures in
    let moved : c.args.at ≡ c.loop-d.to → ⊥ = λ e. clash (digit (byte_at text c.args.at)) first.0 (ap (λ i. digit (byte_at text i)) e ∙ last) in
    let less : c.args.at < c.loop-d.to = grind (arith, moved, c.loop-d.invariant.0) in
    let took = positive_took text c.args.at c.loop-d.to less c.loop-d.invariant.1 c.loop-d.invariant.2 first.1 last in
    (took.0, c.loop-d.invariant.3 ∙ ap capped took.1, took.2)
