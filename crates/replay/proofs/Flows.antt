-- What flows under a contract by its nodes is what flows under it.
use Rattle.std.proofs.Common.{◌≡◌, ℕ, ◌+◌, ◌-◌, ◌<◌, ◌≤◌, not, ◌&&◌, eqb, ltb, leb, List, [], ◌∷◌, ◌++◌, map, length, sym, refl, ap, ◌∙◌, arith, length-append}
use Rattle.std.proofs.ByRecursion.{All-append}
use Rattle.std.specs.Option.{option_map}
use Rattle.replay.specs.First.{found}
use Rattle.deals.specs.Contract.{Figure, Contract, nothing, pays, turned, both, choice, either, scaled, on_day, when, by_day, Day, Path, pick, value, is_zero, chosen, flows, first_day, scaled_flows}
use Rattle.deals.specs.Promise.{limit, moves, FigureFits, PartsFit}
use Rattle.deals.proofs.Sizes.{RatesSmall, value_size, flows_size}
use Rattle.texts.specs.Reading.{capped, capped_amount}
use Rattle.texts.specs.Nodes.{figure_nodes, nodes_of}
use Rattle.texts.specs.declared.nodes.Node.{Node}
use Rattle.replay.specs.declared.dues.Due.{Due}
use Rattle.replay.specs.declared.dues.Above.TheVariants.{Turn, Scale}
use Rattle.replay.specs.declared.flow.Part.{Part}
use Rattle.replay.specs.Parts.{Stands, behind}
use Rattle.replay.specs.Figure.{figure_at}
use Rattle.replay.specs.Dues.{lift_due}
use Rattle.replay.specs.Choices.{way_of, stepped}
use Rattle.replay.specs.First.{true_on, taken_on}
use Rattle.replay.specs.Flow.{Seen, inside, goes_on, next_of, flow_of, flow_at}
use Rattle.replay.specs.Meaning.{RatesAre, Bits, ChosenAre, dues_on}
use Rattle.replay.proofs.Steps.{flow_step}
use Rattle.replay.proofs.Passing.{stands_here, stands_next, stands_left, stands_right, behind_is, passes_figure, passes_contract}
use Rattle.replay.proofs.Figures.{figure_means, capped_same, amount_same}
use Rattle.replay.proofs.Ways.{way_step}
use Rattle.replay.proofs.Firsts.{first_same}
use Rattle.replay.proofs.OnDay.{dues_append, dues_turned, dues_scaled, gate, branch, none_on, goes_branch, goes_one, goes_first, pays_on, small_flows, small_products, moves_below}

bits_more : (p : Path) (b : ℕ) → Bits p → b ≤ 1 → Bits (p ++ b ∷ [])
bits_more p b h g = All-append (λ z. z ≤ 1) p (b ∷ []) h (g, tt)

module _ (ds : List Day) (rs cs c u : ℕ) (s : Seen) (known : s.known ≡ length ds) (are : RatesAre rs s.rates ds) (chose : ChosenAre s.chose ds c) (few : rs ≤ 256) (coins : cs ≤ 64)
    (small : RatesSmall ds) (early : length ds ≤ 65536) where
  abbrev node : ℕ → Node
  node = s.node

  abbrev part : ℕ → ℕ → Path → Part
  part i t p = record { at = i; day = t; way = way_of p }

  -- what flows under a part within another
  abbrev into : ℕ → ℕ → ℕ → Path → ℕ → ℕ → ℕ → List Due
  into n i t p j v b = flow_at s u (n - 1) (inside (part i t p) j v b)

  -- the nodes of a contract stand at a place, and there is room for them
  abbrev At : ℕ → ℕ → List Node → Type 0
  At i n ns = Stands node i ns × (length ns ≤ n) × (i + length ns ≤ 256)

  abbrev Means : Contract → Type 0
  Means x = (i n t : ℕ) (p : Path) → Bits p → At i n (nodes_of x) → flow_at s u n (part i t p) ≡ dues_on u (flows ds c p x t)

  here : (i n t : ℕ) (p : Path) (m : Node) (ns : List Node) → At i n (m ∷ ns) → flow_at s u n (part i t p) ≡ flow_of s u (flow_at s u (n - 1)) (part i t p) m
  here i n t p m ns h =
      flow_step s u n (part i t p) (omega arith) (omega arith) ∙ ap (flow_of s u (flow_at s u (n - 1)) (part i t p)) (stands_here node i m ns h.0)

  -- what stands right behind a node, and behind that
  next : (i n : ℕ) (m : Node) (ns : List Node) → At i n (m ∷ ns) → At (i + 1) (n - 1) ns
  next i n m ns h = (stands_next node i m ns h.0, omega arith, omega arith)

  front : (i n : ℕ) (ns ms : List Node) → At i n (ns ++ ms) → At i n ns
  front i n ns ms h = let long = length-append ns ms in (stands_left node i ns ms h.0, omega arith, omega arith)

  back : (i n : ℕ) (ns ms : List Node) → At i n (ns ++ ms) → At (i + length ns) n ms
  back i n ns ms h = let long = length-append ns ms in (stands_right node i ns ms h.0, omega arith, omega arith)

  over_figure : (e : Figure) (i n : ℕ) (ms : List Node) → At i n (figure_nodes e ++ ms) → behind node i ≡ i + length (figure_nodes e)
  over_figure e i n ms h = let at = front i n (figure_nodes e) ms h in behind_is node i (length (figure_nodes e)) (passes_figure node e i at.0) at.2

  over_contract : (x : Contract) (i n : ℕ) (ms : List Node) → At i n (nodes_of x ++ ms) → behind node i ≡ i + length (nodes_of x)
  over_contract x i n ms h = let at = front i n (nodes_of x) ms h in behind_is node i (length (nodes_of x)) (passes_contract node x i at.0) at.2

  -- a part within another
  sub : (x : Contract) → Means x → (i t v j k n b : ℕ) (p : Path) → Bits p → b ≤ 1 → j ≡ k → At k n (nodes_of x) →
      flow_at s u n (inside (part i t p) j v b) ≡ dues_on u (flows ds c (p ++ b ∷ []) x v)
  sub x means i t v j k n b p h g e at =
      ap (λ z. flow_at s u n (record { at = z; day = v; way = stepped (way_of p) b })) e ∙ ap (λ z. flow_at s u n (record { at = k; day = v; way = z })) (way_step p b)
      ∙ means k n v (p ++ b ∷ []) (bits_more p b h g) at

  worth : (e : Figure) → FigureFits rs e → (t i n : ℕ) → t < length ds → At i n (figure_nodes e) → figure_at s.rates node t 256 i ≡ value ds t e
  worth e f t i n lt h = figure_means ds rs t s.rates are few small lt early node e f i 256 h.0 (omega arith) h.2

  fronted : (e : Figure) (i n : ℕ) (m : Node) (ms : List Node) → At i n (m ∷ (figure_nodes e ++ ms)) → At (i + 1) (n - 1) (figure_nodes e)
  fronted e i n m ms h = front (i + 1) (n - 1) (figure_nodes e) ms (next i n m (figure_nodes e ++ ms) h)

  pub flow_means : (x : Contract) → PartsFit rs cs x → Means x
  unfolding flows flow_of next_of PartsFit true_on taken_on moves
  flow_means nothing f i n t p h at = here i n t p _ [] at ∙ none_on u
  flow_means (pays k a) f i n t p h at =
      here i n t p _ [] at ∙ ap (λ z. pick (eqb t u && ltb t z) (record { currency = capped k; amount = capped_amount a } ∷ []) []) known
      ∙ ap (λ z. pick (eqb t u && ltb t (length ds)) (record { currency = z; amount = capped_amount a } ∷ []) []) (capped_same k (omega (arith, f.0)))
      ∙ ap (λ z. pick (eqb t u && ltb t (length ds)) (record { currency = k; amount = z } ∷ []) []) (amount_same a (omega (arith, f.1))) ∙ pays_on u t k a (ltb t (length ds))
  flow_means (turned x) f i n t p h at =
      here i n t p _ (nodes_of x) at ∙ ap (map (lift_due Turn)) (sub x (flow_means x f) i t t (i + 1) (i + 1) (n - 1) 0 p h (omega arith) refl (next i n _ (nodes_of x) at))
      ∙ sym (dues_turned u (flows ds c (p ++ 0 ∷ []) x t) (small_flows (moves x) _ (moves_below rs cs x f) (λ k. flows_size k ds c small early x (p ++ 0 ∷ []) t)))
  flow_means (both x y) f i n t p h at =
      let rest = next i n _ (nodes_of x ++ nodes_of y) at in
      let one = sub x (flow_means x f.0) i t t (i + 1) (i + 1) (n - 1) 0 p h (omega arith) refl (front (i + 1) (n - 1) (nodes_of x) (nodes_of y) rest) in
      let two = sub y (flow_means y f.1) i t t (behind node (i + 1)) (i + 1 + length (nodes_of x)) (n - 1) 1 p h (omega arith) (over_contract x (i + 1) (n - 1) (nodes_of y) rest)
      (back (i + 1) (n - 1) (nodes_of x) (nodes_of y) rest) in
      here i n t p _ (nodes_of x ++ nodes_of y) at ∙ (λ j. one j ++ two j) ∙ sym (dues_append u (flows ds c (p ++ 0 ∷ []) x t) (flows ds c (p ++ 1 ∷ []) y t))
  flow_means (choice x y) f i n t p h at =
      let rest = next i n _ (nodes_of x ++ nodes_of y) at in
      let one = sub x (flow_means x f.0) i t t (i + 1) (i + 1) (n - 1) 0 p h (omega arith) refl (front (i + 1) (n - 1) (nodes_of x) (nodes_of y) rest) in
      let two = sub y (flow_means y f.1) i t t (behind node (i + 1)) (i + 1 + length (nodes_of x)) (n - 1) 1 p h (omega arith) (over_contract x (i + 1) (n - 1) (nodes_of y) rest)
      (back (i + 1) (n - 1) (nodes_of x) (nodes_of y) rest) in
      let yes = into n i t p (behind node (i + 1)) t 1 in
      let no = into n i t p (i + 1) t 0 in
      here i n t p _ (nodes_of x ++ nodes_of y) at
      ∙ goes_branch (ltb t s.known) (s.chose t (way_of p)) (inside (part i t p) (behind node (i + 1)) t 1) (inside (part i t p) (i + 1) t 0) (flow_at s u (n - 1))
      ∙ ap (λ z. pick (ltb t z) (pick (s.chose t (way_of p)) yes no) []) known
      ∙ gate u t (length ds) (pick (s.chose t (way_of p)) yes no) (pick (chosen ds t c p) (flows ds c (p ++ 1 ∷ []) y t) (flows ds c (p ++ 0 ∷ []) x t))
      (λ lt. ap (λ z. pick z yes no) (chose t p lt h) ∙ branch u (chosen ds t c p) yes no (flows ds c (p ++ 1 ∷ []) y t) (flows ds c (p ++ 0 ∷ []) x t) two one)
  flow_means (either e x y) f i n t p h at =
      let xs = nodes_of x ++ nodes_of y in
      let rest = next i n _ (figure_nodes e ++ xs) at in
      let rest' = back (i + 1) (n - 1) (figure_nodes e) xs rest in
      let j = i + 1 + length (figure_nodes e) in
      let over = over_figure e (i + 1) (n - 1) xs rest in
      let one = sub x (flow_means x f.1) i t t (behind node (i + 1)) j (n - 1) 0 p h (omega arith) over (front j (n - 1) (nodes_of x) (nodes_of y) rest') in
      let two = sub y (flow_means y f.2) i t t (behind node (behind node (i + 1))) (j + length (nodes_of x)) (n - 1) 1 p h (omega arith)
      (ap (behind node) over ∙ over_contract x j (n - 1) (nodes_of y) rest') (back j (n - 1) (nodes_of x) (nodes_of y) rest') in
      let other = into n i t p (behind node (behind node (i + 1))) t 1 in
      let main = into n i t p (behind node (i + 1)) t 0 in
      let v = figure_at s.rates node t 256 (i + 1) in
      here i n t p _ (figure_nodes e ++ xs) at
      ∙ goes_branch (ltb t s.known) (is_zero v) (inside (part i t p) (behind node (behind node (i + 1))) t 1) (inside (part i t p) (behind node (i + 1)) t 0) (flow_at s u (n - 1))
      ∙ ap (λ z. pick (ltb t z) (pick (is_zero v) other main) []) known
      ∙ gate u t (length ds) (pick (is_zero v) other main) (pick (is_zero (value ds t e)) (flows ds c (p ++ 1 ∷ []) y t) (flows ds c (p ++ 0 ∷ []) x t))
      (λ lt. ap (λ z. pick (is_zero z) other main) (worth e f.0 t (i + 1) (n - 1) lt (fronted e i n _ xs at))
      ∙ branch u (is_zero (value ds t e)) other main (flows ds c (p ++ 1 ∷ []) y t) (flows ds c (p ++ 0 ∷ []) x t) two one)
  flow_means (scaled e x) f i n t p h at =
      let rest = next i n _ (figure_nodes e ++ nodes_of x) at in
      let j = i + 1 + length (figure_nodes e) in
      let one = sub x (flow_means x f.1) i t t (behind node (i + 1)) j (n - 1) 0 p h (omega arith) (over_figure e (i + 1) (n - 1) (nodes_of x) rest)
      (back (i + 1) (n - 1) (figure_nodes e) (nodes_of x) rest) in
      let main = into n i t p (behind node (i + 1)) t 0 in
      let v = figure_at s.rates node t 256 (i + 1) in
      here i n t p _ (figure_nodes e ++ nodes_of x) at ∙ ap (λ z. pick (ltb t z) (map (lift_due (Scale v)) main) []) known
      ∙ gate u t (length ds) (map (lift_due (Scale v)) main) (scaled_flows (value ds t e) (flows ds c (p ++ 0 ∷ []) x t))
      (λ lt. ap (λ z. map (lift_due (Scale z)) main) (worth e f.0 t (i + 1) (n - 1) lt (fronted e i n _ (nodes_of x) at)) ∙ ap (map (lift_due (Scale (value ds t e)))) one
      ∙ sym (dues_scaled u (value ds t e) (flows ds c (p ++ 0 ∷ []) x t)
      (small_products (moves x) (limit e) (value ds t e) _ (omega (arith, f.2)) (value_size ds t small (omega arith) e) (λ k. flows_size k ds c small early x (p ++ 0 ∷ []) t))))
  flow_means (on_day d x) f i n t p h at =
      here i n t p _ (nodes_of x) at ∙ goes_one (leb t (capped d)) (inside (part i t p) (i + 1) (capped d) 0) (flow_at s u (n - 1)) ∙ ap (λ z. pick (leb t z) (flow_at s u (n - 1) (inside (part i t p) (i + 1) z 0)) []) (capped_same d (omega (arith, f.0)))
      ∙ branch u (leb t d) _ [] (flows ds c (p ++ 0 ∷ []) x d) [] (sub x (flow_means x f.1) i t d (i + 1) (i + 1) (n - 1) 0 p h (omega arith) refl (next i n _ (nodes_of x) at)) (none_on u)
  flow_means (when e x) f i n t p h at =
      let rest = next i n _ (figure_nodes e ++ nodes_of x) at in
      let j = i + 1 + length (figure_nodes e) in
      let begun : (v : ℕ) → flow_at s u (n - 1) (inside (part i t p) (behind node (i + 1)) v 0) ≡ dues_on u (flows ds c (p ++ 0 ∷ []) x v) =
      λ v. sub x (flow_means x f.1) i t v (behind node (i + 1)) j (n - 1) 0 p h (omega arith) (over_figure e (i + 1) (n - 1) (nodes_of x) rest)
      (back (i + 1) (n - 1) (figure_nodes e) (nodes_of x) rest) in
      let main : ℕ → Part = λ v. inside (part i t p) (behind node (i + 1)) v 0 in
      let go = flow_at s u (n - 1) in
      here i n t p _ (figure_nodes e ++ nodes_of x) at ∙ ap (λ z. goes_on (option_map main (found (first_day (true_on s.rates node (i + 1)) t (z - t)))) go) known
      ∙ ap (λ z. goes_on (option_map main (found z)) go) (first_same (true_on s.rates node (i + 1)) (λ v. not (is_zero (value ds v e))) t (length ds - t)
      (λ v le lt. ap (λ z. not (is_zero z)) (worth e f.0 v (i + 1) (n - 1) (omega arith) (fronted e i n _ (nodes_of x) at))))
      ∙ goes_first u _ main go (λ v. flows ds c (p ++ 0 ∷ []) x v) begun
  flow_means (by_day d x) f i n t p h at =
      let main : ℕ → Part = λ v. inside (part i t p) (i + 1) v 0 in
      let go = flow_at s u (n - 1) in
      here i n t p _ (nodes_of x) at ∙ ap (λ z. goes_on (option_map main (found (first_day (taken_on s.chose z (way_of p)) t (s.known - t)))) go) (capped_same d (omega (arith, f.0)))
      ∙ ap (λ z. goes_on (option_map main (found (first_day (taken_on s.chose d (way_of p)) t (z - t)))) go) known
      ∙ ap (λ z. goes_on (option_map main (found z)) go) (first_same (taken_on s.chose d (way_of p)) (λ v. leb v d && chosen ds v c p) t (length ds - t)
      (λ v le lt. ap (λ z. leb v d && z) (chose v p (omega arith) h)))
      ∙ goes_first u _ main go (λ v. flows ds c (p ++ 0 ∷ []) x v)
      (λ v. sub x (flow_means x f.1) i t v (i + 1) (i + 1) (n - 1) 0 p h (omega arith) refl (next i n _ (nodes_of x) at))
