-- What is written over the nodes of a contract is its text, and only the nodes of contracts are written. Assumes nothing.
use Rattle.std.proofs.Common.{◌≡◌, ℕ, zero, suc, ◌+◌, ◌-◌, ◌<◌, ◌≤◌, min, Bool, true, false, ◌&&◌, leb, ◌⊎◌, List, [], ◌∷◌, ◌++◌, length, get_or, ℤ, pos, negsuc, neg_ℤ, nat_abs, IfSome, Some, None, codes, Option, sym, refl, ap, ◌∙◌, subst, inl, inr, append_assoc, arith, length-append, MatchOption}
use Rattle.std.proofs.lemmas.List.{append-nil}
use Rattle.std.proofs.lemmas.Int.{ints}
use Rattle.std.proofs.lemmas.Bool.{cases_lt, le-leb, lt-leb, leb-true}
use Rattle.std.proofs.lemmas.Bool.Decides.{nat_tests}
use Rattle.deals.specs.Contract.{pick, Figure, fixed, rate, day, plus, minus, times, most, less, Contract, nothing, pays, turned, both, choice, either, scaled, on_day, when, by_day}
use Rattle.deals.specs.Promise.{size, marks, FigureFits, PartsFit, ContractFits}
use Rattle.texts.specs.Text.{Text}
use Rattle.texts.specs.Reading.{capped, capped_amount}
use Rattle.texts.specs.Nodes.{figure_nodes, nodes_of}
use Rattle.texts.specs.Written.{written_number, written_amount, written_rate, written_figure, written}
use Rattle.texts.specs.Limits.{is_pair}
use Rattle.texts.specs.Spelling.{laid, Wrote, number_held, day_word, first_word, is_figure, is_leaf, between_word, behind_word, figure_spell, figure_spelled, scale_spelled, contract_spell, contract_spelled}
use Rattle.texts.specs.declared.nodes.Node.{Node}
use Rattle.texts.specs.declared.nodes.Node.TheVariants.{Nothing, Pays, Turned, Both, Choice, If, Of, On, When, By, Fixed, Rate, Day, Plus, Minus, Times, Max, Less}
use Rattle.texts.proofs.FirstWords.{first_pays, first_fixed, first_rate, first_on, first_by}
use Rattle.texts.proofs.Spelled.{figure_step, contract_none, contract_step}
use Rattle.texts.proofs.Standing.{StandsAt, stands_within, stands_head, stands_tail, stands_left, stands_right, stands_join, stands_cons, stands_one, stands_whole, nodes_length}
use Rattle.texts.proofs.WithinLimits.{size_is}
use Rattle.texts.proofs.HasText.{has_text}
use Rattle.texts.proofs.OneContract.{one_at_most}

-- a contract with its numbers as they are held
abbrev pub held_figure : Figure → Figure
held_figure (fixed a) = fixed (capped_amount a)
held_figure (rate k n) = rate (capped k) (capped n)
held_figure day = day
held_figure (plus e f) = plus (held_figure e) (held_figure f)
held_figure (minus e f) = minus (held_figure e) (held_figure f)
held_figure (times e f) = times (held_figure e) (held_figure f)
held_figure (most e f) = most (held_figure e) (held_figure f)
held_figure (less e f) = less (held_figure e) (held_figure f)

abbrev pub held : Contract → Contract
held nothing = nothing
held (pays k a) = pays (capped k) (capped_amount a)
held (turned x) = turned (held x)
held (both x y) = both (held x) (held y)
held (choice x y) = choice (held x) (held y)
held (either e x y) = either (held_figure e) (held x) (held y)
held (scaled e x) = scaled (held_figure e) (held x)
held (on_day d x) = on_day (capped d) (held x)
held (when e x) = when (held_figure e) (held x)
held (by_day d x) = by_day (capped d) (held x)

capped_low : (n : ℕ) → capped n < 18446744073709551616
capped_low n = omega arith

capped_small : (a : ℤ) → nat_abs (capped_amount a) ≤ 9223372036854775807
capped_small (pos n) = omega arith
capped_small (negsuc n) = omega (arith, ints)

capped_held : (a : ℤ) → nat_abs a ≤ 9223372036854775807 → capped_amount a ≡ a
capped_held (pos n) h = ap pos (omega arith)
capped_held (negsuc n) h = let same : min (suc n) 9223372036854775807 ≡ suc n = omega arith in ap (λ m. neg_ℤ (pos m)) same

-- FIGURES
figure_pair : (ns : List Node) (n at : ℕ) (node : Node) (e f : Figure) (u v w : List ℕ) → StandsAt ns at (node ∷ (figure_nodes e ++ figure_nodes f)) → suc (length (figure_nodes e ++ figure_nodes f)) ≤ n →
    is_figure node ≡ true → is_leaf node ≡ false → first_word node ≡ Some u →
    (StandsAt ns (at + 1) (figure_nodes e) → length (figure_nodes e) ≤ n - 1 → figure_spelled ns (n - 1) (at + 1) ≡ Some (v, at + 1 + length (figure_nodes e))) →
    (StandsAt ns (at + 1 + length (figure_nodes e)) (figure_nodes f) → length (figure_nodes f) ≤ n - 1 →
    figure_spelled ns (n - 1) (at + 1 + length (figure_nodes e)) ≡ Some (w, at + 1 + length (figure_nodes e) + length (figure_nodes f))) →
    figure_spelled ns n at ≡ Some (u ++ (v ++ (between_word node ++ (w ++ behind_word node))), at + suc (length (figure_nodes e ++ figure_nodes f)))
figure_pair ns n at node e f u v w s k fig leaf first p q =
    let is = stands_head ns at node (figure_nodes e ++ figure_nodes f) s in
    let l = stands_within ns at node (figure_nodes e ++ figure_nodes f) s in
    let tail = stands_tail ns at node (figure_nodes e ++ figure_nodes f) s in
    let long = length-append (figure_nodes e) (figure_nodes f) in
    let one = p (stands_left ns (at + 1) (figure_nodes e) (figure_nodes f) tail) (omega arith) in
    let two = q (stands_right ns (at + 1) (figure_nodes e) (figure_nodes f) tail) (omega arith) in
    let next : at + 1 + length (figure_nodes e) + length (figure_nodes f) ≡ at + suc (length (figure_nodes e ++ figure_nodes f)) = omega arith in
    grind (arith, nat_tests, figure_step)

figure_one : (ns : List Node) (n at : ℕ) (node : Node) (u : List ℕ) → StandsAt ns at (node ∷ []) → 1 ≤ n → is_figure node ≡ true → is_leaf node ≡ true → first_word node ≡ Some u →
    figure_spelled ns n at ≡ Some (u, at + 1)
figure_one ns n at node u s k fig leaf first =
    let is = stands_head ns at node [] s in
    let l = stands_within ns at node [] s in
    grind (arith, nat_tests, figure_step)

pub figure_written : (e : Figure) (ns : List Node) (n at : ℕ) → StandsAt ns at (figure_nodes e) → length (figure_nodes e) ≤ n → figure_spelled ns n at ≡ Some (written_figure (held_figure e), at + length (figure_nodes e))
figure_written (fixed a) ns n at s k = figure_one ns n at (Fixed (capped_amount a)) (written_amount (capped_amount a)) s k refl refl (first_fixed (capped_amount a) (capped_small a))
figure_written (rate j i) ns n at s k = figure_one ns n at (Rate (capped j) (capped i)) (written_rate (capped j) (capped i)) s k refl refl (first_rate (capped j) (capped i) (capped_low j) (capped_low i))
figure_written day ns n at s k = figure_one ns n at Day (codes "day") s k refl refl refl
figure_written (plus e f) ns n at s k =
    figure_pair ns n at Plus e f (codes "(") (written_figure (held_figure e)) (written_figure (held_figure f)) s k refl refl refl
    (λ t h. figure_written e ns (n - 1) (at + 1) t h) (λ t h. figure_written f ns (n - 1) (at + 1 + length (figure_nodes e)) t h)
figure_written (minus e f) ns n at s k =
    figure_pair ns n at Minus e f (codes "(") (written_figure (held_figure e)) (written_figure (held_figure f)) s k refl refl refl
    (λ t h. figure_written e ns (n - 1) (at + 1) t h) (λ t h. figure_written f ns (n - 1) (at + 1 + length (figure_nodes e)) t h)
figure_written (times e f) ns n at s k =
    figure_pair ns n at Times e f (codes "(") (written_figure (held_figure e)) (written_figure (held_figure f)) s k refl refl refl
    (λ t h. figure_written e ns (n - 1) (at + 1) t h) (λ t h. figure_written f ns (n - 1) (at + 1 + length (figure_nodes e)) t h)
figure_written (most e f) ns n at s k =
    figure_pair ns n at Max e f (codes "max(") (written_figure (held_figure e)) (written_figure (held_figure f)) s k refl refl refl
    (λ t h. figure_written e ns (n - 1) (at + 1) t h) (λ t h. figure_written f ns (n - 1) (at + 1 + length (figure_nodes e)) t h)
figure_written (less e f) ns n at s k =
    figure_pair ns n at Less e f (codes "(") (written_figure (held_figure e)) (written_figure (held_figure f)) s k refl refl refl
    (λ t h. figure_written e ns (n - 1) (at + 1) t h) (λ t h. figure_written f ns (n - 1) (at + 1 + length (figure_nodes e)) t h)

-- only figures are written
abbrev FigureGood : List Node → ℕ → Option (List ℕ × ℕ) → Type 0
FigureGood ns at o = IfSome o (λ p. (e : Figure) × (p.0 ≡ written_figure e) × (p.1 ≡ at + length (figure_nodes e)) × StandsAt ns at (figure_nodes e))

module _ (ns : List Node) (at : ℕ) (node : Node) (l : at < length ns) (is : get_or ns at Nothing ≡ node) (u m b : List ℕ) (make : Figure → Figure → Figure)
    (spelt : (e f : Figure) → written_figure (make e f) ≡ u ++ (written_figure e ++ (m ++ (written_figure f ++ b)))) (nodes : (e f : Figure) → figure_nodes (make e f) ≡ node ∷ (figure_nodes e ++ figure_nodes f)) where
  second_good : (p : List ℕ × ℕ) (o : Option (List ℕ × ℕ)) → FigureGood ns (at + 1) (Some p) → FigureGood ns p.1 o →
      FigureGood ns at (elim o [ None ↦ None | Some q ↦ Some (u ++ (p.0 ++ (m ++ (q.0 ++ b))), q.1) ])
  second_good p None g h = tt
  second_good p (Some q) (e, e1, e2, e3) (f, f1, f2, f3) =
      let long = length-append (figure_nodes e) (figure_nodes f) in
      let same = ap length (nodes e f) in
      let behind : StandsAt ns (at + 1 + length (figure_nodes e)) (figure_nodes f) = subst (λ i. StandsAt ns i (figure_nodes f)) e2 f3 in (
        make e f,
        ap (λ z. u ++ (z ++ (m ++ (q.0 ++ b)))) e1 ∙ ap (λ z. u ++ (written_figure e ++ (m ++ (z ++ b)))) f1 ∙ sym (spelt e f),
        f2 ∙ omega arith,
        subst (λ z. StandsAt ns at z) (sym (nodes e f)) (stands_cons ns at node (figure_nodes e ++ figure_nodes f) l is (stands_join ns (at + 1) (figure_nodes e) (figure_nodes f) e3 behind)),
      )

  both_good : (o : Option (List ℕ × ℕ)) (rest : ℕ → Option (List ℕ × ℕ)) → FigureGood ns (at + 1) o → ((i : ℕ) → FigureGood ns i (rest i)) →
      FigureGood ns at (elim o [ None ↦ None | Some p ↦ elim (rest p.1) [ None ↦ None | Some q ↦ Some (u ++ (p.0 ++ (m ++ (q.0 ++ b))), q.1) ] ])
  both_good None rest g h = tt
  both_good (Some p) rest g h = second_good p (rest p.1) g (h p.1)

fixed_good : (ns : List Node) (at : ℕ) (a : ℤ) → at < length ns → get_or ns at Nothing ≡ Fixed a → (b : Bool) → leb (nat_abs a) 9223372036854775807 ≡ b →
    FigureGood ns at (elim (pick b (Some (written_amount a)) None) [ None ↦ None | Some u ↦ Some (u, at + 1) ])
fixed_good ns at a l is false e = tt
fixed_good ns at a l is true e =
    let same : capped_amount a ≡ a = capped_held a (leb-true (nat_abs a) 9223372036854775807 e) in
    (fixed a, refl, refl, stands_one ns at (Fixed (capped_amount a)) l (is ∙ ap (λ z. Fixed z) (sym same)))

rate_good : (ns : List Node) (at k n : ℕ) → at < length ns → get_or ns at Nothing ≡ Rate k n → (b c : Bool) → number_held k ≡ b → number_held n ≡ c →
    FigureGood ns at (elim (pick (b && c) (Some (written_rate k n)) None) [ None ↦ None | Some u ↦ Some (u, at + 1) ])
rate_good ns at k n l is false c e f = tt
rate_good ns at k n l is true false e f = tt
rate_good ns at k n l is true true e f =
    let k' : capped k ≡ k = omega (arith, leb-true k 18446744073709551615 e) in
    let n' : capped n ≡ n = omega (arith, leb-true n 18446744073709551615 f) in
    (rate k n, refl, refl, stands_one ns at (Rate (capped k) (capped n)) l (is ∙ ap (λ z. Rate z n) (sym k') ∙ ap (λ z. Rate (capped k) z) (sym n')))

figure_node_good : (ns : List Node) (at : ℕ) (node : Node) (rest : ℕ → Option (List ℕ × ℕ)) → at < length ns → get_or ns at Nothing ≡ node → ((i : ℕ) → FigureGood ns i (rest i)) → FigureGood ns at (figure_spell node at rest)
figure_node_good ns at Nothing rest l is h = tt
figure_node_good ns at (Pays k a) rest l is h = tt
figure_node_good ns at Turned rest l is h = tt
figure_node_good ns at Both rest l is h = tt
figure_node_good ns at Choice rest l is h = tt
figure_node_good ns at If rest l is h = tt
figure_node_good ns at Of rest l is h = tt
figure_node_good ns at (On d) rest l is h = tt
figure_node_good ns at When rest l is h = tt
figure_node_good ns at (By d) rest l is h = tt
figure_node_good ns at (Fixed a) rest l is h = fixed_good ns at a l is (leb (nat_abs a) 9223372036854775807) refl
figure_node_good ns at (Rate k n) rest l is h = rate_good ns at k n l is (number_held k) (number_held n) refl refl
figure_node_good ns at Day rest l is h = (day, refl, refl, stands_one ns at Day l is)
figure_node_good ns at Plus rest l is h = both_good ns at Plus l is (codes "(") (codes " + ") (codes ")") (λ e f. plus e f) (λ _ _. refl) (λ _ _. refl) (rest (at + 1)) rest (h (at + 1)) h
figure_node_good ns at Minus rest l is h = both_good ns at Minus l is (codes "(") (codes " - ") (codes ")") (λ e f. minus e f) (λ _ _. refl) (λ _ _. refl) (rest (at + 1)) rest (h (at + 1)) h
figure_node_good ns at Times rest l is h = both_good ns at Times l is (codes "(") (codes " * ") (codes ")") (λ e f. times e f) (λ _ _. refl) (λ _ _. refl) (rest (at + 1)) rest (h (at + 1)) h
figure_node_good ns at Max rest l is h = both_good ns at Max l is (codes "max(") (codes ", ") (codes ")") (λ e f. most e f) (λ _ _. refl) (λ _ _. refl) (rest (at + 1)) rest (h (at + 1)) h
figure_node_good ns at Less rest l is h = both_good ns at Less l is (codes "(") (codes " < ") (codes ")") (λ e f. less e f) (λ _ _. refl) (λ _ _. refl) (rest (at + 1)) rest (h (at + 1)) h

pub figure_good : (ns : List Node) (n at : ℕ) → FigureGood ns at (figure_spelled ns n at)
unfolding figure_spelled
figure_good ns zero at = tt
figure_good ns (suc n) at = by (λ i. figure_good ns n i) (cases_lt at (length ns))
  where
    by : ((i : ℕ) → FigureGood ns i (figure_spelled ns n i)) → (at < length ns) ⊎ (length ns ≤ at) → FigureGood ns at (pick (leb (length ns) at) None (figure_spell (get_or ns at Nothing) at (figure_spelled ns n)))
    by h (inl l) = rw (lt-leb (length ns) at l) (figure_node_good ns at (get_or ns at Nothing) (figure_spelled ns n) l refl h)
    by h (inr l) = rw (le-leb (length ns) at l) tt

-- CONTRACTS
some_same : (u v : List ℕ) (m n : ℕ) → u ≡ v → m ≡ n → ◌≡◌ {A = Option (List ℕ × ℕ)} (Some (u, m)) (Some (v, n))
some_same u v m n p q = λ i. Some (p i, q i)

contract_one : (ns : List Node) (n at : ℕ) (node : Node) (u : List ℕ) → StandsAt ns at (node ∷ []) → 1 ≤ n → is_figure node ≡ false → is_leaf node ≡ true → first_word node ≡ Some u →
    contract_spelled ns n at ≡ Some (u, at + 1)
contract_one ns n at node u s k fig leaf first =
    let is = stands_head ns at node [] s in
    let l = stands_within ns at node [] s in
    grind (arith, nat_tests, contract_step)

contract_single : (ns : List Node) (n at next to : ℕ) (node : Node) (u v w : List ℕ) → get_or ns at Nothing ≡ node → at < length ns → 0 < n →
    is_figure node ≡ false → is_leaf node ≡ false → is_pair node ≡ false → first_word node ≡ Some u →
    scale_spelled ns node n (at + 1) ≡ Some (v, next) → contract_spelled ns (n - 1) next ≡ Some (w, to) →
    contract_spelled ns n at ≡ Some (u ++ (v ++ (w ++ behind_word node)), to)
contract_single ns n at next to node u v w is l k fig leaf single first scale one = grind (arith, nat_tests, contract_step)

contract_double : (ns : List Node) (n at next mid to : ℕ) (node : Node) (u v w z : List ℕ) → get_or ns at Nothing ≡ node → at < length ns → 0 < n →
    is_figure node ≡ false → is_leaf node ≡ false → is_pair node ≡ true → first_word node ≡ Some u →
    scale_spelled ns node n (at + 1) ≡ Some (v, next) → contract_spelled ns (n - 1) next ≡ Some (w, mid) → contract_spelled ns (n - 1) mid ≡ Some (z, to) →
    contract_spelled ns n at ≡ Some (u ++ (v ++ (w ++ (between_word node ++ (z ++ behind_word node)))), to)
contract_double ns n at next mid to node u v w z is l k fig leaf double first scale one two = grind (arith, nat_tests, contract_step)

-- the same bytes in other brackets
day_spelt : (word num c w : List ℕ) → (word ++ (num ++ c)) ++ (w ++ []) ≡ word ++ (num ++ (c ++ w))
day_spelt word num c w = ap (λ z. (word ++ (num ++ c)) ++ z) (append-nil w) ∙ append_assoc word (num ++ c) w ∙ ap (λ z. word ++ z) (append_assoc num c w)

scale_spelt : (u e c w : List ℕ) → u ++ ((e ++ c) ++ (w ++ [])) ≡ u ++ (e ++ (c ++ w))
scale_spelt u e c w = ap (λ z. u ++ ((e ++ c) ++ z)) (append-nil w) ∙ ap (λ z. u ++ z) (append_assoc e c w)

if_spelt : (u e c x d y : List ℕ) → u ++ ((e ++ c) ++ (x ++ (d ++ (y ++ [])))) ≡ u ++ (e ++ (c ++ (x ++ (d ++ y))))
if_spelt u e c x d y = ap (λ z. u ++ ((e ++ c) ++ (x ++ (d ++ z)))) (append-nil y) ∙ ap (λ z. u ++ z) (append_assoc e c (x ++ (d ++ y)))

figure_scale : (e : Figure) (ns : List Node) (n at : ℕ) (c : List ℕ) → StandsAt ns at (figure_nodes e) → length (figure_nodes e) ≤ n →
    ◌≡◌ {A = Option (List ℕ × ℕ)} (elim (figure_spelled ns n at) [ None ↦ None | Some p ↦ Some (p.0 ++ c, p.1) ]) (Some (written_figure (held_figure e) ++ c, at + length (figure_nodes e)))
figure_scale e ns n at c s k = let f = figure_written e ns n at s k in grind (arith, nat_tests)

pub contract_written : (x : Contract) (ns : List Node) (n at : ℕ) → StandsAt ns at (nodes_of x) → length (nodes_of x) ≤ n → contract_spelled ns n at ≡ Some (written (held x), at + length (nodes_of x))
contract_written nothing ns n at s k = contract_one ns n at Nothing (codes "nothing") s k refl refl refl
contract_written (pays j a) ns n at s k =
    contract_one ns n at (Pays (capped j) (capped_amount a)) (codes "pays " ++ (written_amount (capped_amount a) ++ (codes " " ++ written_number (capped j)))) s k refl refl
    (first_pays (capped j) (capped_amount a) (capped_low j) (capped_small a))
contract_written (turned x) ns n at s k =
    contract_single ns n at (at + 1) (at + 1 + length (nodes_of x)) Turned (codes "turned(") [] (written (held x)) (stands_head ns at Turned (nodes_of x) s) (stands_within ns at Turned (nodes_of x) s) (omega arith)
    refl refl refl refl refl (contract_written x ns (n - 1) (at + 1) (stands_tail ns at Turned (nodes_of x) s) (omega arith))
    ∙ some_same _ _ (at + 1 + length (nodes_of x)) (at + suc (length (nodes_of x))) refl (omega arith)
contract_written (on_day d x) ns n at s k =
    contract_single ns n at (at + 1) (at + 1 + length (nodes_of x)) (On (capped d)) (day_word (codes "on ") (capped d)) [] (written (held x))
    (stands_head ns at (On (capped d)) (nodes_of x) s) (stands_within ns at (On (capped d)) (nodes_of x) s) (omega arith)
    refl refl refl (first_on (capped d) (capped_low d)) refl (contract_written x ns (n - 1) (at + 1) (stands_tail ns at (On (capped d)) (nodes_of x) s) (omega arith))
    ∙ some_same (day_word (codes "on ") (capped d) ++ (written (held x) ++ [])) (written (held (on_day d x))) (at + 1 + length (nodes_of x)) (at + suc (length (nodes_of x))) (day_spelt (codes "on ") (written_number (capped d)) (codes ": ") (written (held x))) (omega arith)
contract_written (by_day d x) ns n at s k =
    contract_single ns n at (at + 1) (at + 1 + length (nodes_of x)) (By (capped d)) (day_word (codes "by ") (capped d)) [] (written (held x))
    (stands_head ns at (By (capped d)) (nodes_of x) s) (stands_within ns at (By (capped d)) (nodes_of x) s) (omega arith)
    refl refl refl (first_by (capped d) (capped_low d)) refl (contract_written x ns (n - 1) (at + 1) (stands_tail ns at (By (capped d)) (nodes_of x) s) (omega arith))
    ∙ some_same (day_word (codes "by ") (capped d) ++ (written (held x) ++ [])) (written (held (by_day d x))) (at + 1 + length (nodes_of x)) (at + suc (length (nodes_of x))) (day_spelt (codes "by ") (written_number (capped d)) (codes ": ") (written (held x))) (omega arith)
contract_written (both x y) ns n at s k =
    let tail = stands_tail ns at Both (nodes_of x ++ nodes_of y) s in
    let long = length-append (nodes_of x) (nodes_of y) in
    contract_double ns n at (at + 1) (at + 1 + length (nodes_of x)) (at + 1 + length (nodes_of x) + length (nodes_of y)) Both (codes "both(") [] (written (held x)) (written (held y))
    (stands_head ns at Both (nodes_of x ++ nodes_of y) s) (stands_within ns at Both (nodes_of x ++ nodes_of y) s) (omega arith) refl refl refl refl refl
    (contract_written x ns (n - 1) (at + 1) (stands_left ns (at + 1) (nodes_of x) (nodes_of y) tail) (omega arith))
    (contract_written y ns (n - 1) (at + 1 + length (nodes_of x)) (stands_right ns (at + 1) (nodes_of x) (nodes_of y) tail) (omega arith))
    ∙ some_same _ _ (at + 1 + length (nodes_of x) + length (nodes_of y)) (at + suc (length (nodes_of x ++ nodes_of y))) refl (omega arith)
contract_written (choice x y) ns n at s k =
    let tail = stands_tail ns at Choice (nodes_of x ++ nodes_of y) s in
    let long = length-append (nodes_of x) (nodes_of y) in
    contract_double ns n at (at + 1) (at + 1 + length (nodes_of x)) (at + 1 + length (nodes_of x) + length (nodes_of y)) Choice (codes "choice(") [] (written (held x)) (written (held y))
    (stands_head ns at Choice (nodes_of x ++ nodes_of y) s) (stands_within ns at Choice (nodes_of x ++ nodes_of y) s) (omega arith) refl refl refl refl refl
    (contract_written x ns (n - 1) (at + 1) (stands_left ns (at + 1) (nodes_of x) (nodes_of y) tail) (omega arith))
    (contract_written y ns (n - 1) (at + 1 + length (nodes_of x)) (stands_right ns (at + 1) (nodes_of x) (nodes_of y) tail) (omega arith))
    ∙ some_same _ _ (at + 1 + length (nodes_of x) + length (nodes_of y)) (at + suc (length (nodes_of x ++ nodes_of y))) refl (omega arith)
contract_written (either e x y) ns n at s k =
    let tail = stands_tail ns at If (figure_nodes e ++ (nodes_of x ++ nodes_of y)) s in
    let next = at + 1 + length (figure_nodes e) in
    let behind = stands_right ns (at + 1) (figure_nodes e) (nodes_of x ++ nodes_of y) tail in
    let long = length-append (figure_nodes e) (nodes_of x ++ nodes_of y) in
    let long' = length-append (nodes_of x) (nodes_of y) in
    contract_double ns n at next (next + length (nodes_of x)) (next + length (nodes_of x) + length (nodes_of y)) If (codes "if ") (written_figure (held_figure e) ++ codes " then ") (written (held x)) (written (held y))
    (stands_head ns at If (figure_nodes e ++ (nodes_of x ++ nodes_of y)) s) (stands_within ns at If (figure_nodes e ++ (nodes_of x ++ nodes_of y)) s) (omega arith) refl refl refl refl
    (figure_scale e ns n (at + 1) (codes " then ") (stands_left ns (at + 1) (figure_nodes e) (nodes_of x ++ nodes_of y) tail) (omega arith))
    (contract_written x ns (n - 1) next (stands_left ns next (nodes_of x) (nodes_of y) behind) (omega arith))
    (contract_written y ns (n - 1) (next + length (nodes_of x)) (stands_right ns next (nodes_of x) (nodes_of y) behind) (omega arith))
    ∙ some_same (codes "if " ++ ((written_figure (held_figure e) ++ codes " then ") ++ (written (held x) ++ (codes " else " ++ (written (held y) ++ []))))) (written (held (either e x y)))
    (next + length (nodes_of x) + length (nodes_of y)) (at + suc (length (figure_nodes e ++ (nodes_of x ++ nodes_of y))))
    (if_spelt (codes "if ") (written_figure (held_figure e)) (codes " then ") (written (held x)) (codes " else ") (written (held y))) (omega arith)
contract_written (scaled e x) ns n at s k =
    let tail = stands_tail ns at Of (figure_nodes e ++ nodes_of x) s in
    let next = at + 1 + length (figure_nodes e) in
    let long = length-append (figure_nodes e) (nodes_of x) in
    contract_single ns n at next (next + length (nodes_of x)) Of ([]) (written_figure (held_figure e) ++ codes " of ") (written (held x))
    (stands_head ns at Of (figure_nodes e ++ nodes_of x) s) (stands_within ns at Of (figure_nodes e ++ nodes_of x) s) (omega arith) refl refl refl refl
    (figure_scale e ns n (at + 1) (codes " of ") (stands_left ns (at + 1) (figure_nodes e) (nodes_of x) tail) (omega arith))
    (contract_written x ns (n - 1) next (stands_right ns (at + 1) (figure_nodes e) (nodes_of x) tail) (omega arith))
    ∙ some_same ([] ++ ((written_figure (held_figure e) ++ codes " of ") ++ (written (held x) ++ []))) (written (held (scaled e x))) (next + length (nodes_of x)) (at + suc (length (figure_nodes e ++ nodes_of x)))
    (scale_spelt ([]) (written_figure (held_figure e)) (codes " of ") (written (held x))) (omega arith)
contract_written (when e x) ns n at s k =
    let tail = stands_tail ns at When (figure_nodes e ++ nodes_of x) s in
    let next = at + 1 + length (figure_nodes e) in
    let long = length-append (figure_nodes e) (nodes_of x) in
    contract_single ns n at next (next + length (nodes_of x)) When (codes "when ") (written_figure (held_figure e) ++ codes ": ") (written (held x))
    (stands_head ns at When (figure_nodes e ++ nodes_of x) s) (stands_within ns at When (figure_nodes e ++ nodes_of x) s) (omega arith) refl refl refl refl
    (figure_scale e ns n (at + 1) (codes ": ") (stands_left ns (at + 1) (figure_nodes e) (nodes_of x) tail) (omega arith))
    (contract_written x ns (n - 1) next (stands_right ns (at + 1) (figure_nodes e) (nodes_of x) tail) (omega arith))
    ∙ some_same (codes "when " ++ ((written_figure (held_figure e) ++ codes ": ") ++ (written (held x) ++ []))) (written (held (when e x))) (next + length (nodes_of x)) (at + suc (length (figure_nodes e ++ nodes_of x)))
    (scale_spelt (codes "when ") (written_figure (held_figure e)) (codes ": ") (written (held x))) (omega arith)

-- only contracts are written
abbrev ContractGood : List Node → ℕ → Option (List ℕ × ℕ) → Type 0
ContractGood ns at o = IfSome o (λ p. (x : Contract) × (p.0 ≡ written x) × (p.1 ≡ at + length (nodes_of x)) × StandsAt ns at (nodes_of x))

abbrev ScaleGood : List ℕ → List Node → ℕ → Option (List ℕ × ℕ) → Type 0
ScaleGood c ns at o = IfSome o (λ p. (e : Figure) × (p.0 ≡ written_figure e ++ c) × (p.1 ≡ at + length (figure_nodes e)) × StandsAt ns at (figure_nodes e))

scale_good : (c : List ℕ) (ns : List Node) (at : ℕ) (o : Option (List ℕ × ℕ)) → FigureGood ns at o → ScaleGood c ns at (elim o [ None ↦ None | Some p ↦ Some (p.0 ++ c, p.1) ])
scale_good c ns at None g = tt
scale_good c ns at (Some p) (e, e1, e2, e3) = (e, ap (λ z. z ++ c) e1, e2, e3)

module _ (ns : List Node) (at : ℕ) (node : Node) (l : at < length ns) (is : get_or ns at Nothing ≡ node) (u m b : List ℕ) where
  -- one part
  one_good : (make : Contract → Contract) → ((x : Contract) → written (make x) ≡ u ++ (written x ++ b)) → ((x : Contract) → nodes_of (make x) ≡ node ∷ nodes_of x) →
      (o : Option (List ℕ × ℕ)) → ContractGood ns (at + 1) o → ContractGood ns at (elim o [ None ↦ None | Some p ↦ Some (u ++ (p.0 ++ b), p.1) ])
  one_good make spelt nodes None g = tt
  one_good make spelt nodes (Some p) (x, x1, x2, x3) =
      let same = ap length (nodes x) in
      (make x, ap (λ z. u ++ (z ++ b)) x1 ∙ sym (spelt x), x2 ∙ omega arith, subst (λ z. StandsAt ns at z) (sym (nodes x)) (stands_cons ns at node (nodes_of x) l is x3))

  -- two
  two_last : (make : Contract → Contract → Contract) → ((x y : Contract) → written (make x y) ≡ u ++ (written x ++ (m ++ (written y ++ b)))) → ((x y : Contract) → nodes_of (make x y) ≡ node ∷ (nodes_of x ++ nodes_of y)) →
      (p : List ℕ × ℕ) (o : Option (List ℕ × ℕ)) → ContractGood ns (at + 1) (Some p) → ContractGood ns p.1 o →
      ContractGood ns at (elim o [ None ↦ None | Some q ↦ Some (u ++ (p.0 ++ (m ++ (q.0 ++ b))), q.1) ])
  two_last make spelt nodes p None g h = tt
  two_last make spelt nodes p (Some q) (x, x1, x2, x3) (y, y1, y2, y3) =
      let long = length-append (nodes_of x) (nodes_of y) in
      let same = ap length (nodes x y) in
      let behind : StandsAt ns (at + 1 + length (nodes_of x)) (nodes_of y) = subst (λ i. StandsAt ns i (nodes_of y)) x2 y3 in (
        make x y,
        ap (λ z. u ++ (z ++ (m ++ (q.0 ++ b)))) x1 ∙ ap (λ z. u ++ (written x ++ (m ++ (z ++ b)))) y1 ∙ sym (spelt x y),
        y2 ∙ omega arith,
        subst (λ z. StandsAt ns at z) (sym (nodes x y)) (stands_cons ns at node (nodes_of x ++ nodes_of y) l is (stands_join ns (at + 1) (nodes_of x) (nodes_of y) x3 behind)),
      )

  two_good : (make : Contract → Contract → Contract) → ((x y : Contract) → written (make x y) ≡ u ++ (written x ++ (m ++ (written y ++ b)))) → ((x y : Contract) → nodes_of (make x y) ≡ node ∷ (nodes_of x ++ nodes_of y)) →
      (o : Option (List ℕ × ℕ)) (rest : ℕ → Option (List ℕ × ℕ)) → ContractGood ns (at + 1) o → ((i : ℕ) → ContractGood ns i (rest i)) →
      ContractGood ns at (elim o [ None ↦ None | Some p ↦ elim (rest p.1) [ None ↦ None | Some q ↦ Some (u ++ (p.0 ++ (m ++ (q.0 ++ b))), q.1) ] ])
  two_good make spelt nodes None rest g h = tt
  two_good make spelt nodes (Some p) rest g h = two_last make spelt nodes p (rest p.1) g (h p.1)

  -- a figure and one part
  scaled_last : (make : Figure → Contract → Contract) → ((e : Figure) (x : Contract) → written (make e x) ≡ u ++ ((written_figure e ++ m) ++ (written x ++ b))) →
      ((e : Figure) (x : Contract) → nodes_of (make e x) ≡ node ∷ (figure_nodes e ++ nodes_of x)) →
      (p : List ℕ × ℕ) (o : Option (List ℕ × ℕ)) → ScaleGood m ns (at + 1) (Some p) → ContractGood ns p.1 o → ContractGood ns at (elim o [ None ↦ None | Some q ↦ Some (u ++ (p.0 ++ (q.0 ++ b)), q.1) ])
  scaled_last make spelt nodes p None g h = tt
  scaled_last make spelt nodes p (Some q) (e, e1, e2, e3) (x, x1, x2, x3) =
      let long = length-append (figure_nodes e) (nodes_of x) in
      let same = ap length (nodes e x) in
      let behind : StandsAt ns (at + 1 + length (figure_nodes e)) (nodes_of x) = subst (λ i. StandsAt ns i (nodes_of x)) e2 x3 in (
        make e x,
        ap (λ z. u ++ (z ++ (q.0 ++ b))) e1 ∙ ap (λ z. u ++ ((written_figure e ++ m) ++ (z ++ b))) x1 ∙ sym (spelt e x),
        x2 ∙ omega arith,
        subst (λ z. StandsAt ns at z) (sym (nodes e x)) (stands_cons ns at node (figure_nodes e ++ nodes_of x) l is (stands_join ns (at + 1) (figure_nodes e) (nodes_of x) e3 behind)),
      )

  scaled_good : (make : Figure → Contract → Contract) → ((e : Figure) (x : Contract) → written (make e x) ≡ u ++ ((written_figure e ++ m) ++ (written x ++ b))) →
      ((e : Figure) (x : Contract) → nodes_of (make e x) ≡ node ∷ (figure_nodes e ++ nodes_of x)) →
      (o : Option (List ℕ × ℕ)) (rest : ℕ → Option (List ℕ × ℕ)) → ScaleGood m ns (at + 1) o → ((i : ℕ) → ContractGood ns i (rest i)) →
      ContractGood ns at (elim o [ None ↦ None | Some p ↦ elim (rest p.1) [ None ↦ None | Some q ↦ Some (u ++ (p.0 ++ (q.0 ++ b)), q.1) ] ])
  scaled_good make spelt nodes None rest g h = tt
  scaled_good make spelt nodes (Some p) rest g h = scaled_last make spelt nodes p (rest p.1) g (h p.1)

-- a figure and two parts
if_last : (ns : List Node) (at : ℕ) → at < length ns → get_or ns at Nothing ≡ If → (p q : List ℕ × ℕ) (o : Option (List ℕ × ℕ)) → ScaleGood (codes " then ") ns (at + 1) (Some p) → ContractGood ns p.1 (Some q) → ContractGood ns q.1 o →
    ContractGood ns at (elim o [ None ↦ None | Some r ↦ Some (codes "if " ++ (p.0 ++ (q.0 ++ (codes " else " ++ (r.0 ++ [])))), r.1) ])
if_last ns at l is p q None g h j = tt
if_last ns at l is p q (Some r) (e, e1, e2, e3) (x, x1, x2, x3) (y, y1, y2, y3) =
    let long = length-append (figure_nodes e) (nodes_of x ++ nodes_of y) in
    let long' = length-append (nodes_of x) (nodes_of y) in
    let next = at + 1 + length (figure_nodes e) in
    let first : StandsAt ns next (nodes_of x) = subst (λ i. StandsAt ns i (nodes_of x)) e2 x3 in
    let second : StandsAt ns (next + length (nodes_of x)) (nodes_of y) = subst (λ i. StandsAt ns i (nodes_of y)) (x2 ∙ ap (λ i. i + length (nodes_of x)) e2) y3 in (
      either e x y,
      ap (λ z. codes "if " ++ (z ++ (q.0 ++ (codes " else " ++ (r.0 ++ []))))) e1 ∙ ap (λ z. codes "if " ++ ((written_figure e ++ codes " then ") ++ (z ++ (codes " else " ++ (r.0 ++ []))))) x1
          ∙ ap (λ z. codes "if " ++ ((written_figure e ++ codes " then ") ++ (written x ++ (codes " else " ++ (z ++ []))))) y1
          ∙ if_spelt (codes "if ") (written_figure e) (codes " then ") (written x) (codes " else ") (written y),
      y2 ∙ omega arith,
      stands_cons ns at If (figure_nodes e ++ (nodes_of x ++ nodes_of y)) l is (stands_join ns (at + 1) (figure_nodes e) (nodes_of x ++ nodes_of y) e3 (stands_join ns next (nodes_of x) (nodes_of y) first second)),
    )

if_middle : (ns : List Node) (at : ℕ) → at < length ns → get_or ns at Nothing ≡ If → (p : List ℕ × ℕ) (o : Option (List ℕ × ℕ)) (rest : ℕ → Option (List ℕ × ℕ)) → ScaleGood (codes " then ") ns (at + 1) (Some p) → ContractGood ns p.1 o →
    ((i : ℕ) → ContractGood ns i (rest i)) →
    ContractGood ns at (elim o [ None ↦ None | Some q ↦ elim (rest q.1) [ None ↦ None | Some r ↦ Some (codes "if " ++ (p.0 ++ (q.0 ++ (codes " else " ++ (r.0 ++ [])))), r.1) ] ])
if_middle ns at l is p None rest g h j = tt
if_middle ns at l is p (Some q) rest g h j = if_last ns at l is p q (rest q.1) g h (j q.1)

if_good : (ns : List Node) (at : ℕ) → at < length ns → get_or ns at Nothing ≡ If → (o : Option (List ℕ × ℕ)) (rest : ℕ → Option (List ℕ × ℕ)) → ScaleGood (codes " then ") ns (at + 1) o → ((i : ℕ) → ContractGood ns i (rest i)) →
    ContractGood ns at (elim o [ None ↦ None | Some p ↦ elim (rest p.1) [ None ↦ None | Some q ↦ elim (rest q.1) [ None ↦ None | Some r ↦ Some (codes "if " ++ (p.0 ++ (q.0 ++ (codes " else " ++ (r.0 ++ [])))), r.1) ] ] ])
if_good ns at l is None rest g h = tt
if_good ns at l is (Some p) rest g h = if_middle ns at l is p (rest p.1) rest g (h p.1) h

pays_good : (ns : List Node) (at k : ℕ) (a : ℤ) → at < length ns → get_or ns at Nothing ≡ Pays k a → (b c : Bool) → number_held k ≡ b → leb (nat_abs a) 9223372036854775807 ≡ c →
    ContractGood ns at (elim (pick (b && c) (Some (codes "pays " ++ (written_amount a ++ (codes " " ++ written_number k)))) None) [ None ↦ None | Some u ↦ Some (u, at + 1) ])
pays_good ns at k a l is false c e f = tt
pays_good ns at k a l is true false e f = tt
pays_good ns at k a l is true true e f =
    let k' : capped k ≡ k = omega (arith, leb-true k 18446744073709551615 e) in
    let a' : capped_amount a ≡ a = capped_held a (leb-true (nat_abs a) 9223372036854775807 f) in
    (pays k a, refl, refl, stands_one ns at (Pays (capped k) (capped_amount a)) l (is ∙ ap (λ z. Pays z a) (sym k') ∙ ap (λ z. Pays (capped k) z) (sym a')))

on_good : (ns : List Node) (at d : ℕ) → at < length ns → get_or ns at Nothing ≡ On d → (b : Bool) → number_held d ≡ b → (o : Option (List ℕ × ℕ)) → ContractGood ns (at + 1) o →
    ContractGood ns at (elim (pick b (Some (day_word (codes "on ") d)) None) [ None ↦ None | Some u ↦ elim o [ None ↦ None | Some p ↦ Some (u ++ (p.0 ++ []), p.1) ] ])
on_good ns at d l is false e o g = tt
on_good ns at d l is true e o g =
    let d' : capped d ≡ d = omega (arith, leb-true d 18446744073709551615 e) in
    one_good ns at (On (capped d)) l (is ∙ ap (λ z. On z) (sym d')) (day_word (codes "on ") d) [] [] (λ x. on_day d x) (λ x. sym (day_spelt (codes "on ") (written_number d) (codes ": ") (written x))) (λ x. refl) o g

by_good : (ns : List Node) (at d : ℕ) → at < length ns → get_or ns at Nothing ≡ By d → (b : Bool) → number_held d ≡ b → (o : Option (List ℕ × ℕ)) → ContractGood ns (at + 1) o →
    ContractGood ns at (elim (pick b (Some (day_word (codes "by ") d)) None) [ None ↦ None | Some u ↦ elim o [ None ↦ None | Some p ↦ Some (u ++ (p.0 ++ []), p.1) ] ])
by_good ns at d l is false e o g = tt
by_good ns at d l is true e o g =
    let d' : capped d ≡ d = omega (arith, leb-true d 18446744073709551615 e) in
    one_good ns at (By (capped d)) l (is ∙ ap (λ z. By z) (sym d')) (day_word (codes "by ") d) [] [] (λ x. by_day d x) (λ x. sym (day_spelt (codes "by ") (written_number d) (codes ": ") (written x))) (λ x. refl) o g

contract_node_good : (ns : List Node) (n at : ℕ) (node : Node) (rest : ℕ → Option (List ℕ × ℕ)) → at < length ns → get_or ns at Nothing ≡ node → ((i : ℕ) → ContractGood ns i (rest i)) →
    ContractGood ns at (contract_spell node at (scale_spelled ns node n) rest)
contract_node_good ns n at Nothing rest l is h = (nothing, refl, refl, stands_one ns at Nothing l is)
contract_node_good ns n at (Pays k a) rest l is h = pays_good ns at k a l is (number_held k) (leb (nat_abs a) 9223372036854775807) refl refl
contract_node_good ns n at Turned rest l is h = one_good ns at Turned l is (codes "turned(") [] (codes ")") (λ x. turned x) (λ _. refl) (λ _. refl) (rest (at + 1)) (h (at + 1))
contract_node_good ns n at Both rest l is h = two_good ns at Both l is (codes "both(") (codes ", ") (codes ")") (λ x y. both x y) (λ _ _. refl) (λ _ _. refl) (rest (at + 1)) rest (h (at + 1)) h
contract_node_good ns n at Choice rest l is h = two_good ns at Choice l is (codes "choice(") (codes ", ") (codes ")") (λ x y. choice x y) (λ _ _. refl) (λ _ _. refl) (rest (at + 1)) rest (h (at + 1)) h
contract_node_good ns n at If rest l is h = if_good ns at l is (scale_spelled ns If n (at + 1)) rest (scale_good (codes " then ") ns (at + 1) (figure_spelled ns n (at + 1)) (figure_good ns n (at + 1))) h
contract_node_good ns n at Of rest l is h = scaled_good ns at Of l is [] (codes " of ") [] (λ e x. scaled e x) (λ e x. sym (scale_spelt [] (written_figure e) (codes " of ") (written x))) (λ _ _. refl) (scale_spelled ns Of n (at + 1)) rest (scale_good (codes " of ") ns (at + 1) (figure_spelled ns n (at + 1)) (figure_good ns n (at + 1))) h
contract_node_good ns n at (On d) rest l is h = on_good ns at d l is (number_held d) refl (rest (at + 1)) (h (at + 1))
contract_node_good ns n at When rest l is h = scaled_good ns at When l is (codes "when ") (codes ": ") [] (λ e x. when e x) (λ e x. sym (scale_spelt (codes "when ") (written_figure e) (codes ": ") (written x))) (λ _ _. refl) (scale_spelled ns When n (at + 1)) rest (scale_good (codes ": ") ns (at + 1) (figure_spelled ns n (at + 1)) (figure_good ns n (at + 1))) h
contract_node_good ns n at (By d) rest l is h = by_good ns at d l is (number_held d) refl (rest (at + 1)) (h (at + 1))
contract_node_good ns n at (Fixed a) rest l is h = tt
contract_node_good ns n at (Rate k j) rest l is h = tt
contract_node_good ns n at Day rest l is h = tt
contract_node_good ns n at Plus rest l is h = tt
contract_node_good ns n at Minus rest l is h = tt
contract_node_good ns n at Times rest l is h = tt
contract_node_good ns n at Max rest l is h = tt
contract_node_good ns n at Less rest l is h = tt

pub contract_good : (ns : List Node) (n at : ℕ) → ContractGood ns at (contract_spelled ns n at)
unfolding contract_spelled
contract_good ns zero at = tt
contract_good ns (suc n) at = by (λ i. contract_good ns n i) (cases_lt at (length ns))
  where
    by : ((i : ℕ) → ContractGood ns i (contract_spelled ns n i)) → (at < length ns) ⊎ (length ns ≤ at) →
        ContractGood ns at (pick (leb (length ns) at) None (contract_spell (get_or ns at Nothing) at (scale_spelled ns (get_or ns at Nothing) (suc n)) (contract_spelled ns n)))
    by h (inl l) = rw (lt-leb (length ns) at l) (contract_node_good ns (suc n) at (get_or ns at Nothing) (contract_spelled ns n) l refl h)
    by h (inr l) = rw (le-leb (length ns) at l) tt

text_is : (u v : List ℕ) (m n : ℕ) → ◌≡◌ {A = Option (List ℕ × ℕ)} (Some (u, m)) (Some (v, n)) → u ≡ v
text_is u v m n e = let z : ◌≡◌ {A = List ℕ × ℕ} (u, m) (v, n) = cc in ap (λ p. p.0) z

empty : (xs : List Node) → length xs ≡ 0 → xs ≡ []
empty [] e = refl
empty (x ∷ xs) e = absurd (omega arith)

-- in bounds, numbers are held as they are
size_held : (a : ℤ) → size a < 1099511627776 → capped_amount a ≡ a
size_held a h = capped_held a (omega (arith, size_is a))

held_figure_same : (rs : ℕ) (e : Figure) → rs ≤ 65536 → FigureFits rs e → held_figure e ≡ e
unfolding FigureFits
held_figure_same rs (fixed a) r h = ap (λ z. fixed z) (size_held a (omega arith))
held_figure_same rs (rate k n) r h =
    let k' : capped k ≡ k = omega arith in
    let n' : capped n ≡ n = omega arith in
    λ i. rate (k' i) (n' i)
held_figure_same rs day r h = refl
held_figure_same rs (plus e f) r h = λ i. plus (held_figure_same rs e r h.0 i) (held_figure_same rs f r h.1 i)
held_figure_same rs (minus e f) r h = λ i. minus (held_figure_same rs e r h.0 i) (held_figure_same rs f r h.1 i)
held_figure_same rs (times e f) r h = λ i. times (held_figure_same rs e r h.0 i) (held_figure_same rs f r h.1 i)
held_figure_same rs (most e f) r h = λ i. most (held_figure_same rs e r h.0 i) (held_figure_same rs f r h.1 i)
held_figure_same rs (less e f) r h = λ i. less (held_figure_same rs e r h.0 i) (held_figure_same rs f r h.1 i)

held_same : (rs cs : ℕ) (x : Contract) → rs ≤ 65536 → cs ≤ 256 → PartsFit rs cs x → held x ≡ x
unfolding PartsFit
held_same rs cs nothing r q h = refl
held_same rs cs (pays k a) r q h = let k' : capped k ≡ k = omega arith in λ i. pays (k' i) (size_held a h.1 i)
held_same rs cs (turned x) r q h = ap (λ z. turned z) (held_same rs cs x r q h)
held_same rs cs (both x y) r q h = λ i. both (held_same rs cs x r q h.0 i) (held_same rs cs y r q h.1 i)
held_same rs cs (choice x y) r q h = λ i. choice (held_same rs cs x r q h.0 i) (held_same rs cs y r q h.1 i)
held_same rs cs (either e x y) r q h = λ i. either (held_figure_same rs e r h.0 i) (held_same rs cs x r q h.1 i) (held_same rs cs y r q h.2 i)
held_same rs cs (scaled e x) r q h = λ i. scaled (held_figure_same rs e r h.0 i) (held_same rs cs x r q h.1 i)
held_same rs cs (on_day d x) r q h = let d' : capped d ≡ d = omega arith in λ i. on_day (d' i) (held_same rs cs x r q h.1 i)
held_same rs cs (when e x) r q h = λ i. when (held_figure_same rs e r h.0 i) (held_same rs cs x r q h.1 i)
held_same rs cs (by_day d x) r q h = let d' : capped d ≡ d = omega arith in λ i. by_day (d' i) (held_same rs cs x r q h.1 i)

-- WHOLE ROWS
pub spelled_row : (x : Contract) (row : List Node) → row ≡ nodes_of x → marks x ≤ 256 → contract_spelled row 256 0 ≡ Some (written (held x), length row)
spelled_row x row e few =
    let long = nodes_length x in
    let same : 0 + length (nodes_of x) ≡ length row = omega (arith, ap length e) in
    ap (λ z. contract_spelled z 256 0) e ∙ contract_written x (nodes_of x) 256 0 (stands_whole (nodes_of x)) (omega arith) ∙ some_same (written (held x)) (written (held x)) (0 + length (nodes_of x)) (length row) refl same

stands_all : (row ms : List Node) → StandsAt row 0 ms → length row ≡ length ms → row ≡ ms
stands_all row ms s e =
    let long = length-append ms s.rest in
    let none : length s.rest ≡ 0 = let all = ap length s.so in omega arith in
    s.so ∙ ap (λ z. ms ++ z) (empty s.rest none) ∙ append-nil ms

pub record RowOf (row : List Node) (w : List ℕ) : Type 0 where
  pub contract : Contract
  pub nodes : row ≡ nodes_of contract
  pub few : marks contract ≤ 256
  pub text : w ≡ written contract

pub row_of : (row : List Node) (w : List ℕ) → length row ≤ 256 → contract_spelled row 256 0 ≡ Some (w, length row) → RowOf row w
row_of row w few e = by (subst (λ o. ContractGood row 0 o) e (contract_good row 256 0))
  where
    by : ContractGood row 0 (Some (w, length row)) → RowOf row w
    by (x, x1, x2, x3) =
        let same : length row ≡ length (nodes_of x) = omega arith in
        record { contract = x; nodes = stands_all row (nodes_of x) x3 same; few = omega (arith, nodes_length x); text = x1 }

pub row_some : (row : List Node) (w : List ℕ) (n : ℕ) → contract_spelled row 256 0 ≡ Some (w, n) → 0 < length row
row_some row w n e = by (cases_lt 0 (length row))
  where
    by : (0 < length row) ⊎ (length row ≤ 0) → 0 < length row
    by (inl h) = h
    by (inr h) = let none = contract_none row 256 0 (inr h) in let z : ◌≡◌ {A = ℕ} 0 1 = cc in absurd (omega arith)

pub wrote_out : (o : Option (List ℕ × ℕ)) (a b : List ℕ) (to at long n : ℕ) (w : List ℕ) (r : Option (ℕ × ℕ)) → MatchOption r (o ≡ None) (Wrote o a b to at long) → o ≡ Some (w, n) → b ≡ laid a to w
wrote_out o a b to at long n w None h e = let z : ◌≡◌ {A = ℕ} 0 1 = cc in absurd (omega arith)
wrote_out o a b to at long n w (Some p) h e = let same : h.text ≡ w = text_is h.text w p.0 n (sym h.is ∙ e) in h.put.bytes ∙ ap (λ z. laid a to z) same

-- the only contract in bounds that it can be
pub only_row : (row : List Node) (w : List ℕ) (x : Contract) (rs cs : ℕ) (y : Contract) → contract_spelled row 256 0 ≡ Some (w, length row) → w ≡ written x →
    rs ≤ 65536 → cs ≤ 256 → ContractFits rs cs y → (length (nodes_of y) ≤ 256 → row ≡ nodes_of y) → y ≡ x
unfolding ContractFits
only_row row w x rs cs y e t r q fits h =
    let spelt = spelled_row y row (h (omega (arith, nodes_length y, fits.1))) fits.1 in
    let same : written (held y) ≡ w = text_is (written (held y)) w (length row) (length row) (sym spelt ∙ e) in
    let whole : written y ≡ written x = ap written (sym (held_same rs cs y r q fits.0)) ∙ same ∙ t in
    one_at_most (written x) x y (has_text x) (subst (Text y) whole (has_text y))
