-- A call's result whose refusal was turned into another. Assumes nothing.
use Rattle.std.proofs.Common.{◌≡◌, Ok, Err, Result, MatchResult, ℕ, subst, arith}
use Rattle.std.specs.Result.{IsErrAnd}
use Rattle.std.proofs.lemmas.Result.{err_from_is_err_and}

pub mapped_ok : {T E D : Type 0} (P : T → Type 0) (Q : E → Type 0) (R : E → D → Type 0) (r : Result T E) (m : Result T D) (x : T) →
    MatchResult r P Q → MatchResult r (λ y. m ≡ Ok y) (λ e. IsErrAnd m (R e)) → m ≡ Ok x → P x
mapped_ok P Q R (Ok y) m x h k is = let same : y ≡ x = cc in subst P same h
mapped_ok P Q R (Err e) m x h k is = let p = err_from_is_err_and {Q = R e} m k in let z : ◌≡◌ {A = ℕ} 0 1 = cc in absurd (omega arith)

pub mapped_err : {T E D : Type 0} (P : T → Type 0) (Q : E → Type 0) (R : E → D → Type 0) (r : Result T E) (m : Result T D) (d : D) →
    MatchResult r P Q → MatchResult r (λ y. m ≡ Ok y) (λ e. IsErrAnd m (R e)) → m ≡ Err d → (e : E) × Q e × R e d
mapped_err P Q R (Ok y) m d h k is = let z : ◌≡◌ {A = ℕ} 0 1 = cc in absurd (omega arith)
mapped_err P Q R (Err e) m d h k is = let p = err_from_is_err_and {Q = R e} m k in let same : p.0 ≡ d = cc in (e, h, subst (R e) same p.2)

-- a refusal that is handed on as it is
pub handed_on : {T E : Type 0} (P : T → Type 0) (Q : E → Type 0) (r : Result T E) (e : E) → IsErrAnd r (λ d. d ≡ e) → Q e → MatchResult r P Q
handed_on P Q r e h q = let p = err_from_is_err_and r h in rw (p.1, p.2) q
