-- Nodes that stand from a place on, and the place behind them.
use Rattle.std.proofs.Common.{◌≡◌, ℕ, suc, ◌+◌, ◌-◌, ◌≤◌, List, [], ◌∷◌, ◌++◌, length, sym, refl, ap, ◌∙◌, subst, add-zero, arith, length-append}
use Rattle.deals.specs.Contract.{Figure, fixed, rate, day, plus, minus, times, most, less, Contract, nothing, pays, turned, both, choice, either, scaled, on_day, when, by_day}
use Rattle.texts.specs.Nodes.{figure_nodes, nodes_of}
use Rattle.texts.specs.declared.nodes.Node.{Node}
use Rattle.replay.specs.Parts.{Stands, within, passed, behind}
use Rattle.replay.proofs.Steps.{passed_none, passed_step}

pub stands_here : (node : ℕ → Node) (i : ℕ) (n : Node) (ns : List Node) → Stands node i (n ∷ ns) → node i ≡ n
unfolding Stands
stands_here node i n ns h = h.0

pub stands_next : (node : ℕ → Node) (i : ℕ) (n : Node) (ns : List Node) → Stands node i (n ∷ ns) → Stands node (i + 1) ns
unfolding Stands
stands_next node i n ns h = h.1

pub stands_left : (node : ℕ → Node) (i : ℕ) (ns ms : List Node) → Stands node i (ns ++ ms) → Stands node i ns
unfolding Stands
stands_left node i [] ms h = tt
stands_left node i (n ∷ ns) ms h = (h.0, stands_left node (i + 1) ns ms h.1)

pub stands_right : (node : ℕ → Node) (i : ℕ) (ns ms : List Node) → Stands node i (ns ++ ms) → Stands node (i + length ns) ms
unfolding Stands
stands_right node i [] ms h = rw (add-zero i) h
stands_right node i (n ∷ ns) ms h =
    let far : (i + 1) + length ns ≡ i + length (n ∷ ns) = omega arith in
    subst (λ j. Stands node j ms) far (stands_right node (i + 1) ns ms h.1)

-- at place i stands a part of so many nodes
pub Passes : (ℕ → Node) → ℕ → ℕ → Type 0
Passes node i l = (n more : ℕ) → l ≤ n → passed node n (suc more) i ≡ passed node (n - l) more (i + l)

module _ (node : ℕ → Node) where
  pub passes_leaf : (i : ℕ) (m : Node) → node i ≡ m → within m ≡ 0 → Passes node i 1
  unfolding Passes
  passes_leaf i m e w n more le =
      let none : more + within (node i) ≡ more = ap (λ z. more + within z) e ∙ ap (λ z. more + z) w ∙ omega arith in
      passed_step node n more i (omega arith) ∙ ap (λ z. passed node (n - 1) z (i + 1)) none

  pub passes_one : (i l : ℕ) (m : Node) → node i ≡ m → within m ≡ 1 → Passes node (i + 1) l → Passes node i (suc l)
  unfolding Passes
  passes_one i l m e w p n more le =
      let one : more + within (node i) ≡ suc more = ap (λ z. more + within z) e ∙ ap (λ z. more + z) w ∙ omega arith in
      let to : n - 1 - l ≡ n - suc l = omega arith in
      let far : i + 1 + l ≡ i + suc l = omega arith in
      passed_step node n more i (omega arith) ∙ ap (λ z. passed node (n - 1) z (i + 1)) one ∙ p (n - 1) more (omega arith)
      ∙ ap (λ z. passed node z more (i + 1 + l)) to ∙ ap (λ z. passed node (n - suc l) more z) far

  pub passes_two : (i l k : ℕ) (m : Node) → node i ≡ m → within m ≡ 2 → Passes node (i + 1) l → Passes node (i + 1 + l) k → Passes node i (suc (l + k))
  unfolding Passes
  passes_two i l k m e w p q n more le =
      let two : more + within (node i) ≡ suc (suc more) = ap (λ z. more + within z) e ∙ ap (λ z. more + z) w ∙ omega arith in
      let to : n - 1 - l - k ≡ n - suc (l + k) = omega arith in
      let far : i + 1 + l + k ≡ i + suc (l + k) = omega arith in
      passed_step node n more i (omega arith) ∙ ap (λ z. passed node (n - 1) z (i + 1)) two ∙ p (n - 1) (suc more) (omega arith) ∙ q (n - 1 - l) more (omega arith)
      ∙ ap (λ z. passed node z more (i + 1 + l + k)) to ∙ ap (λ z. passed node (n - suc (l + k)) more z) far

  pub passes_three : (i l k j : ℕ) (m : Node) → node i ≡ m → within m ≡ 3 → Passes node (i + 1) l → Passes node (i + 1 + l) k → Passes node (i + 1 + l + k) j → Passes node i (suc (l + (k + j)))
  unfolding Passes
  passes_three i l k j m e w p q r n more le =
      let three : more + within (node i) ≡ suc (suc (suc more)) = ap (λ z. more + within z) e ∙ ap (λ z. more + z) w ∙ omega arith in
      let to : n - 1 - l - k - j ≡ n - suc (l + (k + j)) = omega arith in
      let far : i + 1 + l + k + j ≡ i + suc (l + (k + j)) = omega arith in
      passed_step node n more i (omega arith) ∙ ap (λ z. passed node (n - 1) z (i + 1)) three ∙ p (n - 1) (suc (suc more)) (omega arith) ∙ q (n - 1 - l) (suc more) (omega arith)
      ∙ r (n - 1 - l - k) more (omega arith)
      ∙ ap (λ z. passed node z more (i + 1 + l + k + j)) to ∙ ap (λ z. passed node (n - suc (l + (k + j))) more z) far

  pub behind_is : (i l : ℕ) → Passes node i l → i + l ≤ 256 → behind node i ≡ i + l
  unfolding Passes behind
  behind_is i l p h = p (256 - i) 0 (omega arith) ∙ passed_none node (256 - i - l) (i + l)

  -- two figures behind a node
  two_figures : (e f : Figure) → ((i : ℕ) → Stands node i (figure_nodes e) → Passes node i (length (figure_nodes e))) →
      ((i : ℕ) → Stands node i (figure_nodes f) → Passes node i (length (figure_nodes f))) → (m : Node) → within m ≡ 2 → (i : ℕ) →
      Stands node i (m ∷ (figure_nodes e ++ figure_nodes f)) → Passes node i (length (m ∷ (figure_nodes e ++ figure_nodes f)))
  two_figures e f p q m w i h =
      let rest = stands_next node i m (figure_nodes e ++ figure_nodes f) h in
      subst (λ l. Passes node i (suc l)) (sym (length-append (figure_nodes e) (figure_nodes f)))
      (passes_two i (length (figure_nodes e)) (length (figure_nodes f)) m (stands_here node i m (figure_nodes e ++ figure_nodes f) h) w
      (p (i + 1) (stands_left node (i + 1) (figure_nodes e) (figure_nodes f) rest)) (q (i + 1 + length (figure_nodes e)) (stands_right node (i + 1) (figure_nodes e) (figure_nodes f) rest)))

  pub passes_figure : (e : Figure) (i : ℕ) → Stands node i (figure_nodes e) → Passes node i (length (figure_nodes e))
  passes_figure (fixed a) i h = passes_leaf i _ (stands_here node i _ [] h) refl
  passes_figure (rate k n) i h = passes_leaf i _ (stands_here node i _ [] h) refl
  passes_figure day i h = passes_leaf i _ (stands_here node i _ [] h) refl
  passes_figure (plus e f) i h = two_figures e f (passes_figure e) (passes_figure f) _ refl i h
  passes_figure (minus e f) i h = two_figures e f (passes_figure e) (passes_figure f) _ refl i h
  passes_figure (times e f) i h = two_figures e f (passes_figure e) (passes_figure f) _ refl i h
  passes_figure (most e f) i h = two_figures e f (passes_figure e) (passes_figure f) _ refl i h
  passes_figure (less e f) i h = two_figures e f (passes_figure e) (passes_figure f) _ refl i h

  -- contracts behind a node: one; a figure and one; two; a figure and two
  one_within : (x : Contract) → ((i : ℕ) → Stands node i (nodes_of x) → Passes node i (length (nodes_of x))) → (m : Node) → within m ≡ 1 → (i : ℕ) →
      Stands node i (m ∷ nodes_of x) → Passes node i (length (m ∷ nodes_of x))
  one_within x p m w i h = passes_one i (length (nodes_of x)) m (stands_here node i m (nodes_of x) h) w (p (i + 1) (stands_next node i m (nodes_of x) h))

  figure_within : (e : Figure) (x : Contract) → ((i : ℕ) → Stands node i (nodes_of x) → Passes node i (length (nodes_of x))) → (m : Node) → within m ≡ 2 → (i : ℕ) →
      Stands node i (m ∷ (figure_nodes e ++ nodes_of x)) → Passes node i (length (m ∷ (figure_nodes e ++ nodes_of x)))
  figure_within e x p m w i h =
      let rest = stands_next node i m (figure_nodes e ++ nodes_of x) h in
      subst (λ l. Passes node i (suc l)) (sym (length-append (figure_nodes e) (nodes_of x)))
      (passes_two i (length (figure_nodes e)) (length (nodes_of x)) m (stands_here node i m (figure_nodes e ++ nodes_of x) h) w
      (passes_figure e (i + 1) (stands_left node (i + 1) (figure_nodes e) (nodes_of x) rest)) (p (i + 1 + length (figure_nodes e)) (stands_right node (i + 1) (figure_nodes e) (nodes_of x) rest)))

  two_within : (x y : Contract) → ((i : ℕ) → Stands node i (nodes_of x) → Passes node i (length (nodes_of x))) →
      ((i : ℕ) → Stands node i (nodes_of y) → Passes node i (length (nodes_of y))) → (m : Node) → within m ≡ 2 → (i : ℕ) →
      Stands node i (m ∷ (nodes_of x ++ nodes_of y)) → Passes node i (length (m ∷ (nodes_of x ++ nodes_of y)))
  two_within x y p q m w i h =
      let rest = stands_next node i m (nodes_of x ++ nodes_of y) h in
      subst (λ l. Passes node i (suc l)) (sym (length-append (nodes_of x) (nodes_of y)))
      (passes_two i (length (nodes_of x)) (length (nodes_of y)) m (stands_here node i m (nodes_of x ++ nodes_of y) h) w
      (p (i + 1) (stands_left node (i + 1) (nodes_of x) (nodes_of y) rest)) (q (i + 1 + length (nodes_of x)) (stands_right node (i + 1) (nodes_of x) (nodes_of y) rest)))

  figure_two_within : (e : Figure) (x y : Contract) → ((i : ℕ) → Stands node i (nodes_of x) → Passes node i (length (nodes_of x))) →
      ((i : ℕ) → Stands node i (nodes_of y) → Passes node i (length (nodes_of y))) → (m : Node) → within m ≡ 3 → (i : ℕ) →
      Stands node i (m ∷ (figure_nodes e ++ (nodes_of x ++ nodes_of y))) → Passes node i (length (m ∷ (figure_nodes e ++ (nodes_of x ++ nodes_of y))))
  figure_two_within e x y p q m w i h =
      let all = figure_nodes e ++ (nodes_of x ++ nodes_of y) in
      let j = i + 1 + length (figure_nodes e) in
      let rest = stands_next node i m all h in
      let two = stands_right node (i + 1) (figure_nodes e) (nodes_of x ++ nodes_of y) rest in
      let long : length all ≡ length (figure_nodes e) + (length (nodes_of x) + length (nodes_of y)) =
      length-append (figure_nodes e) (nodes_of x ++ nodes_of y) ∙ ap (λ l. length (figure_nodes e) + l) (length-append (nodes_of x) (nodes_of y)) in
      subst (λ l. Passes node i (suc l)) (sym long)
      (passes_three i (length (figure_nodes e)) (length (nodes_of x)) (length (nodes_of y)) m (stands_here node i m all h) w
      (passes_figure e (i + 1) (stands_left node (i + 1) (figure_nodes e) (nodes_of x ++ nodes_of y) rest)) (p j (stands_left node j (nodes_of x) (nodes_of y) two))
      (q (j + length (nodes_of x)) (stands_right node j (nodes_of x) (nodes_of y) two)))

  pub passes_contract : (x : Contract) (i : ℕ) → Stands node i (nodes_of x) → Passes node i (length (nodes_of x))
  passes_contract nothing i h = passes_leaf i _ (stands_here node i _ [] h) refl
  passes_contract (pays k a) i h = passes_leaf i _ (stands_here node i _ [] h) refl
  passes_contract (turned x) i h = one_within x (passes_contract x) _ refl i h
  passes_contract (both x y) i h = two_within x y (passes_contract x) (passes_contract y) _ refl i h
  passes_contract (choice x y) i h = two_within x y (passes_contract x) (passes_contract y) _ refl i h
  passes_contract (either e x y) i h = figure_two_within e x y (passes_contract x) (passes_contract y) _ refl i h
  passes_contract (scaled e x) i h = figure_within e x (passes_contract x) _ refl i h
  passes_contract (on_day d x) i h = one_within x (passes_contract x) _ refl i h
  passes_contract (when e x) i h = figure_within e x (passes_contract x) _ refl i h
  passes_contract (by_day d x) i h = one_within x (passes_contract x) _ refl i h
