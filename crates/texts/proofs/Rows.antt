-- What a tree holds after a node more, or another node in the place of one. Assumes nothing.
use Rattle.std.proofs.Common.{◌≡◌, ℕ, ◌<◌, ◌≤◌, min, Ok, Err, Result, IsOk, OnOk, OnErr, List, [], ◌∷◌, ◌++◌, length, take, set, sym, refl, ap, ◌∙◌, subst, append_assoc, arith, length-append}
use Rattle.arrayvec.specs.ArrayVec.{ArrayVec}
use lib.Seq.{take-set-lt}
use Rattle.std.proofs.lemmas.List.{take_all, take-append-le, length-take, set_at}
use Rattle.deals.specs.Contract.{Figure}
use Rattle.texts.specs.Figures.{Operator, add, subtract, multiply, compare, operator_node, applied}
use Rattle.texts.specs.Nodes.{Holds, Grown, figure_nodes}
use Rattle.texts.specs.declared.nodes.Node.{Node}
use Rattle.texts.specs.declared.nodes.Tree.{Tree}

-- the first so many of a row with one more behind it, and with another in the place of one
pub more_room : (most : ℕ) (held row : List Node) (node : Node) → held ≡ take most row → length held < most → held ++ node ∷ [] ≡ take most (row ++ node ∷ [])
more_room most held row node is room =
    let long = ap length is ∙ length-take most row in
    let few : length row ≤ most = omega arith in
    let fits : length (row ++ node ∷ []) ≤ most = omega (arith, length-append row (node ∷ [])) in
    ap (λ v. v ++ node ∷ []) (is ∙ take_all most row few) ∙ sym (take_all most (row ++ node ∷ []) fits)

pub more_full : (most : ℕ) (held row : List Node) (node : Node) → held ≡ take most row → length held ≡ most → held ≡ take most (row ++ node ∷ [])
more_full most held row node is full =
    let long = ap length is ∙ length-take most row in
    is ∙ sym (take-append-le most row (node ∷ []) (omega arith))

-- what `try_push` leaves
pub pushed : {E : Type 0} (most : ℕ) (before after : ArrayVec Node) (row : List Node) (node : Node) (r : Result (Unit {0}) E) →
    (IsOk r → length before.items < most) → OnOk r (after.items ≡ before.items ++ node ∷ []) → OnErr r (after ≡ before) → OnErr r (length before.items ≡ most) →
    before.items ≡ take most row → after.items ≡ take most (row ++ node ∷ [])
pushed most before after row node (Ok u) fits ok err full is = ok ∙ more_room most before.items row node is (fits refl)
pushed most before after row node (Err e) fits ok err full is = ap (λ v. v.items) err ∙ more_full most before.items row node is full

pub holds_long : {t : Tree} {row : List Node} → Holds t row → length t.nodes.items ≡ min 257 (length row)
holds_long {row = row} h = ap length h.first ∙ length-take 257 row

pub holds_all : {t : Tree} {row : List Node} → Holds t row → length row ≤ 256 → t.nodes.items ≡ row
holds_all {row = row} h few = h.first ∙ take_all 257 row (omega arith)

pub put_within : (most : ℕ) (held ns ms : List Node) (old node : Node) (at : ℕ) → held ≡ take most (ns ++ old ∷ ms) → length ns ≡ at → at < most → set held at node ≡ take most (ns ++ node ∷ ms)
put_within most held ns ms old node at is here within =
    ap (λ v. set v at node) is ∙ sym (take-set-lt most (ns ++ old ∷ ms) at node within) ∙ ap (λ v. take most v) (set_at ns old ms node at here)

pub put_past : (most : ℕ) (held ns ms : List Node) (old node : Node) → held ≡ take most (ns ++ old ∷ ms) → most ≤ length ns → held ≡ take most (ns ++ node ∷ ms)
put_past most held ns ms old node is past = is ∙ take-append-le most ns (old ∷ ms) past ∙ sym (take-append-le most ns (node ∷ ms) past)

-- one after the other
pub grown_then : {a b c : Tree} (ms ns : List Node) → Grown a b ms → Grown b c ns → Grown a c (ms ++ ns)
grown_then {c = c} ms ns p q rs h = subst (Holds c) (append_assoc rs ms ns) (q (rs ++ ms) (p rs h))

-- the node of what stands between two figures is put before both
pub applied_nodes : (o : Operator) (e f : Figure) → operator_node o ∷ (figure_nodes e ++ figure_nodes f) ≡ figure_nodes (applied o e f)
applied_nodes add e f = refl
applied_nodes subtract e f = refl
applied_nodes multiply e f = refl
applied_nodes compare e f = refl
