-- One step of the writing of figures and contracts over nodes. Assumes nothing.
use Rattle.std.proofs.Common.{◌≡◌, ℕ, zero, suc, ◌-◌, ◌<◌, ◌≤◌, ◌⊎◌, List, length, get_or, None, sym, refl, ap, inl, inr, arith}
use Rattle.std.proofs.lemmas.Bool.{le-leb, lt-leb}
use Rattle.texts.specs.Spelling.{figure_spell, figure_spelled, scale_spelled, contract_spell, contract_spelled}
use Rattle.texts.specs.declared.nodes.Node.{Node}
use Rattle.texts.specs.declared.nodes.Node.TheVariants.{Nothing}

pub figure_none : (ns : List Node) (n at : ℕ) → (n ≡ 0) ⊎ (length ns ≤ at) → figure_spelled ns n at ≡ None
unfolding figure_spelled
figure_none ns zero at h = refl
figure_none ns (suc n) at (inl e) = absurd (omega arith)
figure_none ns (suc n) at (inr l) = rw (le-leb (length ns) at l)

pub figure_step : (ns : List Node) (n at : ℕ) → 0 < n → at < length ns → figure_spelled ns n at ≡ figure_spell (get_or ns at Nothing) at (figure_spelled ns (n - 1))
unfolding figure_spelled
figure_step ns zero at h l = absurd (omega arith)
figure_step ns (suc n) at h l =
    let same : suc n - 1 ≡ n = omega arith in
    rw (lt-leb (length ns) at l) (ap (λ k. figure_spell (get_or ns at Nothing) at (figure_spelled ns k)) (sym same))

pub contract_none : (ns : List Node) (n at : ℕ) → (n ≡ 0) ⊎ (length ns ≤ at) → contract_spelled ns n at ≡ None
unfolding contract_spelled
contract_none ns zero at h = refl
contract_none ns (suc n) at (inl e) = absurd (omega arith)
contract_none ns (suc n) at (inr l) = rw (le-leb (length ns) at l)

pub contract_step : (ns : List Node) (n at : ℕ) → 0 < n → at < length ns →
    contract_spelled ns n at ≡ contract_spell (get_or ns at Nothing) at (scale_spelled ns (get_or ns at Nothing) n) (contract_spelled ns (n - 1))
unfolding contract_spelled
contract_step ns zero at h l = absurd (omega arith)
contract_step ns (suc n) at h l =
    let same : suc n - 1 ≡ n = omega arith in
    rw (lt-leb (length ns) at l) (ap (λ k. contract_spell (get_or ns at Nothing) at (scale_spelled ns (get_or ns at Nothing) (suc n)) (contract_spelled ns k)) (sym same))
