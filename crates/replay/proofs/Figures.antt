-- The value of a figure by its nodes is its value.
use Rattle.std.proofs.Common.{◌≡◌, ℕ, suc, ◌+◌, ◌-◌, ◌<◌, ◌≤◌, min, leb, List, [], ◌∷◌, ◌++◌, length, ℤ, pos, negsuc, ◌+ℤ◌, ◌-ℤ◌, ◌*ℤ◌, neg_ℤ, ap, ◌∙◌, arith, length-append, w64, SFits}
use borrow.Author.Differences.{fits_in}
use Rattle.std.proofs.lemmas.Nat.{mul-le}
use Rattle.std.proofs.lemmas.Int.{ints, to_z_pos, int_wrap_fits}
use Rattle.deals.specs.Contract.{Figure, Day, pick, million, down, value, fixed, rate, day, plus, minus, times, most, less}
use Rattle.deals.specs.Promise.{size, limit, FigureFits}
use Rattle.deals.proofs.Sizes.{size_is, size_mul, size_add, size_sub, value_size, RatesSmall}
use Rattle.texts.specs.Reading.{capped, capped_amount}
use Rattle.texts.specs.Nodes.{figure_nodes}
use Rattle.texts.specs.declared.nodes.Node.{Node}
use Rattle.replay.specs.Days.{rate_before}
use Rattle.replay.specs.Meaning.{RatesAre}
use Rattle.replay.specs.Parts.{Stands, behind}
use Rattle.replay.specs.Figure.{combined, figure_of, figure_at}
use Rattle.replay.proofs.Steps.{figure_step}
use Rattle.replay.proofs.Passing.{stands_here, stands_next, stands_left, stands_right, behind_is, passes_figure}

pub capped_same : (n : ℕ) → n < 18446744073709551615 → capped n ≡ n
capped_same n h = omega arith

pub amount_same : (a : ℤ) → size a < 9223372036854775807 → capped_amount a ≡ a
amount_same (pos n) h = ap pos (omega (arith, size_is (pos n)))
amount_same (negsuc n) h = let same : min (suc n) 9223372036854775807 ≡ suc n = omega (arith, size_is (negsuc n)) in ap (λ m. neg_ℤ (pos m)) same

-- a number below 2^62 in size is held in 64 bits
pub short_fits : (z : ℤ) → size z < 4611686018427387904 → SFits w64 z
short_fits z h = omega (arith, fits_in, ints, size_is z)

module _ (ds : List Day) (rs t : ℕ) (rates : ℕ → ℕ → ℤ) (are : RatesAre rs rates ds) (few : rs ≤ 256) (small : RatesSmall ds) (known : t < length ds) (early : length ds ≤ 65536) (node : ℕ → Node) where
  abbrev Means : Figure → Type 0
  Means e = (i n : ℕ) → Stands node i (figure_nodes e) → length (figure_nodes e) ≤ n → i + length (figure_nodes e) ≤ 256 → figure_at rates node t n i ≡ value ds t e

  sizes : (e : Figure) → size (value ds t e) ≤ limit e
  sizes e = value_size ds t small (omega arith) e

  -- the two figures within a node
  first_means : (e f : Figure) → Means e → (m : Node) (i n : ℕ) → Stands node i (m ∷ (figure_nodes e ++ figure_nodes f)) → suc (length (figure_nodes e ++ figure_nodes f)) ≤ n →
      i + suc (length (figure_nodes e ++ figure_nodes f)) ≤ 256 → figure_at rates node t (n - 1) (i + 1) ≡ value ds t e
  first_means e f p m i n h le lt =
      let long = length-append (figure_nodes e) (figure_nodes f) in
      p (i + 1) (n - 1) (stands_left node (i + 1) (figure_nodes e) (figure_nodes f) (stands_next node i m _ h)) (omega arith) (omega arith)

  second_means : (e f : Figure) → Means f → (m : Node) (i n : ℕ) → Stands node i (m ∷ (figure_nodes e ++ figure_nodes f)) → suc (length (figure_nodes e ++ figure_nodes f)) ≤ n →
      i + suc (length (figure_nodes e ++ figure_nodes f)) ≤ 256 → figure_at rates node t (n - 1) (behind node (i + 1)) ≡ value ds t f
  second_means e f q m i n h le lt =
      let long = length-append (figure_nodes e) (figure_nodes f) in
      let rest = stands_next node i m (figure_nodes e ++ figure_nodes f) h in
      let over : behind node (i + 1) ≡ i + 1 + length (figure_nodes e) =
      behind_is node (i + 1) (length (figure_nodes e)) (passes_figure node e (i + 1) (stands_left node (i + 1) (figure_nodes e) (figure_nodes f) rest)) (omega arith) in
      ap (figure_at rates node t (n - 1)) over ∙ q (i + 1 + length (figure_nodes e)) (n - 1) (stands_right node (i + 1) (figure_nodes e) (figure_nodes f) rest) (omega arith) (omega arith)

  -- the node at hand, and what it makes of the two figures within it
  here : (i n : ℕ) (m : Node) (ns : List Node) → Stands node i (m ∷ ns) → suc (length ns) ≤ n → i + suc (length ns) ≤ 256 →
      figure_at rates node t n i ≡ figure_of rates node t (figure_at rates node t (n - 1)) i m
  here i n m ns h le lt = figure_step rates node t n i (omega arith) (omega arith) ∙ ap (figure_of rates node t (figure_at rates node t (n - 1)) i) (stands_here node i m ns h)

  two : (e f : Figure) → Means e → Means f → (m : Node) (i n : ℕ) → Stands node i (m ∷ (figure_nodes e ++ figure_nodes f)) → suc (length (figure_nodes e ++ figure_nodes f)) ≤ n →
      i + suc (length (figure_nodes e ++ figure_nodes f)) ≤ 256 →
      combined m (figure_at rates node t (n - 1) (i + 1)) (figure_at rates node t (n - 1) (behind node (i + 1))) ≡ combined m (value ds t e) (value ds t f)
  two e f p q m i n h le lt =
      ap (λ z. combined m z (figure_at rates node t (n - 1) (behind node (i + 1)))) (first_means e f p m i n h le lt) ∙ ap (combined m (value ds t e)) (second_means e f q m i n h le lt)

  pub figure_means : (e : Figure) → FigureFits rs e → Means e
  unfolding FigureFits value limit figure_of
  figure_means (fixed a) f i n h le lt = here i n _ [] h le lt ∙ amount_same a (omega arith)
  figure_means (rate k m) f i n h le lt =
      here i n _ [] h le lt ∙ ap (λ z. rate_before rates t z (capped m)) (capped_same k (omega arith)) ∙ ap (rate_before rates t k) (capped_same m (omega arith))
      ∙ ap (λ z. pick (leb m t) z (pos 0)) (are (t - m) k (omega arith) f.0)
  figure_means day f i n h le lt = here i n _ [] h le lt ∙ to_z_pos w64 t (omega arith)
  figure_means (plus e g) f i n h le lt =
      here i n _ _ h le lt ∙ two e g (figure_means e f.0) (figure_means g f.1) _ i n h le lt
      ∙ int_wrap_fits w64 (value ds t e +ℤ value ds t g) (short_fits _ (omega (arith, size_add (value ds t e) (value ds t g), sizes e, sizes g, f.2)))
  figure_means (minus e g) f i n h le lt =
      here i n _ _ h le lt ∙ two e g (figure_means e f.0) (figure_means g f.1) _ i n h le lt
      ∙ int_wrap_fits w64 (value ds t e -ℤ value ds t g) (short_fits _ (omega (arith, size_sub (value ds t e) (value ds t g), sizes e, sizes g, f.2)))
  figure_means (times e g) f i n h le lt =
      here i n _ _ h le lt ∙ two e g (figure_means e f.0) (figure_means g f.1) _ i n h le lt
      ∙ ap (λ z. down z million) (int_wrap_fits w64 (value ds t e *ℤ value ds t g) (short_fits _ (omega (arith, size_mul (value ds t e) (value ds t g), mul-le (size (value ds t e)) (size (value ds t g)) (limit e) (limit g) (sizes e) (sizes g), f.2))))
  figure_means (most e g) f i n h le lt = here i n _ _ h le lt ∙ two e g (figure_means e f.0) (figure_means g f.1) _ i n h le lt
  figure_means (less e g) f i n h le lt = here i n _ _ h le lt ∙ two e g (figure_means e f.0) (figure_means g f.1) _ i n h le lt
