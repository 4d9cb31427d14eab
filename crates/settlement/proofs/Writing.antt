-- What a pair has come to, as payments behind those before.
use Rattle.std.proofs.Common.{◌≡◌, ℕ, List, [], ◌∷◌, ◌++◌, map, length, ℤ, refl, sym, ap, ◌∙◌, subst}
use Rattle.std.proofs.lemmas.List.{map-append, length-map}
use Rattle.deals.specs.Lines.{Line, pair_lines}
use Rattle.deals.specs.Payments.{Payment as Paid, written}
use Rattle.mornings.specs.Pairs.{as_bytes, Written as SharedWritten, pair_payments as shared_payments}
use Rattle.settlement.specs.Paying.{Written, pair_payments}

pub written_start : (was : List ℕ) → Written was [] 0 was
written_start was = record { count = refl; bytes = refl }

pub to_shared : (was : List ℕ) (ps : List Paid) (n : ℕ) (s : List ℕ) → Written was ps n s → SharedWritten was (map as_bytes ps) n s
to_shared was ps n s w = record { count = w.count ∙ sym (length-map ps as_bytes); bytes = w.bytes }

lines_as_bytes : (ls : List Line) → map as_bytes (map written ls) ≡ map (λ l. as_bytes (written l)) ls
lines_as_bytes [] = refl
lines_as_bytes (l ∷ ls) = ap (λ z. as_bytes (written l) ∷ z) (lines_as_bytes ls)

same_payments : (cs a b : ℕ) (sums : ℕ → ℤ) → map as_bytes (pair_payments cs a b sums) ≡ shared_payments cs a b sums
unfolding pair_payments
same_payments cs a b sums = lines_as_bytes (pair_lines cs a b sums)

pub as_long : (cs a b : ℕ) (sums : ℕ → ℤ) → length (shared_payments cs a b sums) ≡ length (pair_payments cs a b sums)
as_long cs a b sums = ap length (sym (same_payments cs a b sums)) ∙ length-map (pair_payments cs a b sums) as_bytes

pub from_shared : (was : List ℕ) (ps : List Paid) (cs a b : ℕ) (sums : ℕ → ℤ) (n : ℕ) (s : List ℕ) → SharedWritten was (map as_bytes ps ++ shared_payments cs a b sums) n s → Written was (ps ++ pair_payments cs a b sums) n s
from_shared was ps cs a b sums n s w =
    let is : map as_bytes ps ++ shared_payments cs a b sums ≡ map as_bytes (ps ++ pair_payments cs a b sums) =
    ap (λ z. map as_bytes ps ++ z) (sym (same_payments cs a b sums)) ∙ sym (map-append as_bytes ps (pair_payments cs a b sums)) in
    let w' = subst (λ z. SharedWritten was z n s) is w in
    record { count = w'.count ∙ length-map (ps ++ pair_payments cs a b sums) as_bytes; bytes = w'.bytes }
