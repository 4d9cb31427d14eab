-- Nodes that stand in a row from a place on. Assumes nothing.
use Rattle.std.proofs.Common.{◌≡◌, ℕ, suc, ◌+◌, ◌<◌, List, [], ◌∷◌, ◌++◌, length, get_or, drop, sym, refl, ap, ◌∙◌, append_assoc, add-one, arith, length-append, length-drop, drop-cons, drop-drop}
use Rattle.std.proofs.lemmas.List.{drop_at, append-nil}
use Rattle.deals.specs.Contract.{Figure, fixed, rate, day, plus, minus, times, most, less, Contract, nothing, pays, turned, both, choice, either, scaled, on_day, when, by_day}
use Rattle.deals.specs.Promise.{marks, figure_marks}
use Rattle.texts.specs.Nodes.{figure_nodes, nodes_of}
use Rattle.texts.specs.declared.nodes.Node.{Node}
use Rattle.texts.specs.declared.nodes.Node.TheVariants.{Nothing}

pub record StandsAt (ns : List Node) (at : ℕ) (ms : List Node) : Type 0 where
  pub rest : List Node
  pub so : drop at ns ≡ ms ++ rest

pub stands_within : (ns : List Node) (at : ℕ) (n : Node) (ms : List Node) → StandsAt ns at (n ∷ ms) → at < length ns
stands_within ns at n ms s =
    let long = ap length s.so in
    let all = length-drop at ns in
    omega arith

pub stands_head : (ns : List Node) (at : ℕ) (n : Node) (ms : List Node) → StandsAt ns at (n ∷ ms) → get_or ns at Nothing ≡ n
stands_head ns at n ms s =
    let e : get_or ns at Nothing ∷ drop (suc at) ns ≡ n ∷ (ms ++ s.rest) = sym (drop-cons ns at Nothing (stands_within ns at n ms s)) ∙ s.so in
    cc

pub stands_tail : (ns : List Node) (at : ℕ) (n : Node) (ms : List Node) → StandsAt ns at (n ∷ ms) → StandsAt ns (at + 1) ms
stands_tail ns at n ms s =
    let e : get_or ns at Nothing ∷ drop (suc at) ns ≡ n ∷ (ms ++ s.rest) = sym (drop-cons ns at Nothing (stands_within ns at n ms s)) ∙ s.so in
    let tail : drop (suc at) ns ≡ ms ++ s.rest = cc in
    record { rest = s.rest; so = ap (λ k. drop k ns) (add-one at) ∙ tail }

pub stands_left : (ns : List Node) (at : ℕ) (xs ys : List Node) → StandsAt ns at (xs ++ ys) → StandsAt ns at xs
stands_left ns at xs ys s = record { rest = ys ++ s.rest; so = s.so ∙ append_assoc xs ys s.rest }

pub stands_right : (ns : List Node) (at : ℕ) (xs ys : List Node) → StandsAt ns at (xs ++ ys) → StandsAt ns (at + length xs) ys
stands_right ns at xs ys s = record {
  rest = s.rest;
  so = sym (drop-drop (length xs) at ns) ∙ ap (λ z. drop (length xs) z) (s.so ∙ append_assoc xs ys s.rest) ∙ drop_at xs (ys ++ s.rest) (length xs) refl;
}

pub stands_join : (ns : List Node) (at : ℕ) (xs ys : List Node) → StandsAt ns at xs → StandsAt ns (at + length xs) ys → StandsAt ns at (xs ++ ys)
stands_join ns at xs ys p q =
    let behind : drop (at + length xs) ns ≡ p.rest = sym (drop-drop (length xs) at ns) ∙ ap (λ z. drop (length xs) z) p.so ∙ drop_at xs p.rest (length xs) refl in
    record { rest = q.rest; so = p.so ∙ ap (λ z. xs ++ z) (sym behind ∙ q.so) ∙ sym (append_assoc xs ys q.rest) }

pub stands_cons : (ns : List Node) (at : ℕ) (n : Node) (ms : List Node) → at < length ns → get_or ns at Nothing ≡ n → StandsAt ns (at + 1) ms → StandsAt ns at (n ∷ ms)
stands_cons ns at n ms l e p = record { rest = p.rest; so = drop-cons ns at Nothing l ∙ ap (λ m. m ∷ drop (suc at) ns) e ∙ ap (λ z. n ∷ z) (sym (ap (λ k. drop k ns) (add-one at)) ∙ p.so) }

pub stands_one : (ns : List Node) (at : ℕ) (n : Node) → at < length ns → get_or ns at Nothing ≡ n → StandsAt ns at (n ∷ [])
stands_one ns at n l e = stands_cons ns at n [] l e (record { rest = drop (at + 1) ns; so = refl })

pub stands_whole : (ns : List Node) → StandsAt ns 0 ns
stands_whole ns = record { rest = []; so = sym (append-nil ns) }

pub figure_length : (e : Figure) → length (figure_nodes e) ≡ figure_marks e
unfolding figure_marks
figure_length (fixed a) = refl
figure_length (rate k n) = refl
figure_length day = refl
figure_length (plus e f) = omega (arith, length-append (figure_nodes e) (figure_nodes f), figure_length e, figure_length f)
figure_length (minus e f) = omega (arith, length-append (figure_nodes e) (figure_nodes f), figure_length e, figure_length f)
figure_length (times e f) = omega (arith, length-append (figure_nodes e) (figure_nodes f), figure_length e, figure_length f)
figure_length (most e f) = omega (arith, length-append (figure_nodes e) (figure_nodes f), figure_length e, figure_length f)
figure_length (less e f) = omega (arith, length-append (figure_nodes e) (figure_nodes f), figure_length e, figure_length f)

pub nodes_length : (x : Contract) → length (nodes_of x) ≡ marks x
unfolding marks
nodes_length nothing = refl
nodes_length (pays k a) = refl
nodes_length (turned x) = omega (arith, nodes_length x)
nodes_length (both x y) = omega (arith, length-append (nodes_of x) (nodes_of y), nodes_length x, nodes_length y)
nodes_length (choice x y) = omega (arith, length-append (nodes_of x) (nodes_of y), nodes_length x, nodes_length y)
nodes_length (either e x y) =
    omega (arith, length-append (figure_nodes e) (nodes_of x ++ nodes_of y), length-append (nodes_of x) (nodes_of y), figure_length e, nodes_length x, nodes_length y)
nodes_length (scaled e x) = omega (arith, length-append (figure_nodes e) (nodes_of x), figure_length e, nodes_length x)
nodes_length (on_day d x) = omega (arith, nodes_length x)
nodes_length (when e x) = omega (arith, length-append (figure_nodes e) (nodes_of x), figure_length e, nodes_length x)
nodes_length (by_day d x) = omega (arith, nodes_length x)
