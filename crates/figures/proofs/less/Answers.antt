use Rattle.std.proofs.Common.{◌≡◌, Bool, true, false, pos, refl, ap₂, ◌∙◌, int_lt, w64, to_z, of_z, SFits, rules}
use Rattle.std.proofs.lemmas.Int.{to_z-of_z}
use mir.Val.{bool_byte}
use Rattle.deals.specs.Contract.{flag}
use Rattle.figures.proofs.less.Goals as goal

as_flag : (b : Bool) → to_z w64 (of_z w64 (pos (bool_byte b))) ≡ flag b
unfolding flag
as_flag true = refl
as_flag false = refl

pub returns : goal.returns
returns c =
    let a : SFits w64 c.args.a = search rules in
    let b : SFits w64 c.args.b = search rules in
    rw c.from.ensures (as_flag (int_lt (to_z w64 (of_z w64 c.args.a)) (to_z w64 (of_z w64 c.args.b))) ∙ ap₂ (λ x y. flag (int_lt x y)) (to_z-of_z w64 c.args.a a) (to_z-of_z w64 c.args.b b))
