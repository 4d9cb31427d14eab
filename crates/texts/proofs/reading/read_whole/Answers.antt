use Rattle.texts.proofs.Mapped.{handed_on}
use Rattle.std.proofs.Common.{◌≡◌, length, subst, arith}
use Rattle.texts.specs.Bounds.{ContractNumerals}
use Rattle.texts.specs.Ranges.{Noted}
use Rattle.texts.proofs.Whole.{refused_where, refused_behind, read_whole}
use Rattle.texts.proofs.reading.read_whole.Goals as goal

pub returns-in_err-to : goal.returns-in_err-to
returns-in_err-to c =
    handed_on _ _ _ _ c.from_residual.ensures.1 (refused_where c.args.text.now _ c.in_err-to.ensures)

pub returns-then-to-text : goal.returns-then-to-text
returns-then-to-text c =
    let x = c.in_ok-to.ensures in
    refused_behind c.args.text.now c.in_ok-to.to x.0 x.1 c.if-to-text.true

pub returns : goal.returns
returns c =
    let x = c.in_ok-to.ensures in
    let whole = read_whole c.args.text.now c.in_ok-to.to x.0 x.1 c.if-to-text.false in
    let end : c.in_ok-to.to ≡ length c.args.text.now = let w = x.1.within in omega arith in
    record {
      contract = x.0;
      read = record { text_of = whole.0; only = whole.1; held = x.2 _ c.requires };
      noted = subst (λ b. Noted c.args.read.now.ranges c.contract.new.read.ranges (λ rs cs. ContractNumerals rs cs x.0) c.args.text.now 0 b) end x.3;
    }
