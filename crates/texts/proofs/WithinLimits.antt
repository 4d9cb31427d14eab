-- What is worked out over the nodes of a contract says whether it is within limits. Assumes nothing.
use Rattle.std.proofs.lemmas.Option.{none-some, same_Some}
use Rattle.std.proofs.Common.{◌≡◌, ℕ, suc, ◌+◌, ◌-◌, ◌*◌, ◌/◌, ◌<◌, ◌≤◌, min, true, false, leb, ◌⊎◌, List, [], ◌∷◌, ◌++◌, length, get_or, ℤ, pos, negsuc, nat_abs, Some, None, Bool, MatchBool, MatchOption, Option, subst, sym, refl, ap, ◌∙◌, inl, inr, arith, length-append}
use Rattle.std.proofs.lemmas.Int.{ints}
use Rattle.std.proofs.lemmas.Bool.{cases_lt, le-ltb, lt-leb, le-leb}
use Rattle.std.proofs.lemmas.Bool.Decides.{nat_tests}
use Rattle.deals.specs.Contract.{larger, million, Figure, fixed, rate, day, plus, minus, times, most, less, Contract, nothing, pays, turned, both, choice, either, scaled, on_day, when, by_day}
use Rattle.deals.specs.Promise.{size, limit, moves, parts, deep, below, marks}
use Rattle.texts.specs.Reading.{capped, capped_amount}
use Rattle.texts.specs.Nodes.{figure_nodes, nodes_of}
use Rattle.texts.specs.Bounds.{FigureWithin, PartsWithin, IsWithinLimits}
use Rattle.texts.specs.Limits.{leaf_size, joined_size, largest_at, single_measure, scale_at, is_pair, deep_of_two, alone, measured_at}
use Rattle.texts.specs.declared.limits.Measure.{Measure}
use Rattle.texts.specs.declared.nodes.Node.{Node}
use Rattle.texts.specs.declared.nodes.Node.TheVariants.{Nothing, Pays, Turned, Both, Choice, If, Of, On, When, By, Fixed, Rate, Day, Plus, Minus, Times, Max, Less}
use Rattle.texts.proofs.Weights.{largest_step, measured_none, measured_step}
use Rattle.texts.proofs.Standing.{StandsAt, stands_within, stands_head, stands_tail, stands_left, stands_right, stands_whole, nodes_length}

pub size_is : (a : ℤ) → size a ≡ nat_abs a
unfolding size
size_is (pos n) = rw (le-ltb n 0 (omega arith))
size_is (negsuc n) = refl

-- an amount as it is held is as large, or larger than any limit
held_size : (a : ℤ) → nat_abs (capped_amount a) ≡ min (size a) 9223372036854775807
held_size (pos n) = rw (size_is (pos n)) refl
held_size (negsuc n) = rw (size_is (negsuc n)) (omega (arith, ints))

-- FIGURES
abbrev Weighs : Figure → List Node → ℕ → ℕ → Type 0
Weighs e ns n at =
    (FigureWithin e × (largest_at ns n at ≡ Some (limit e, at + length (figure_nodes e)))) ⊎ ((FigureWithin e → ⊥) × (largest_at ns n at ≡ None))

pair_weighs : (ns : List Node) (n at : ℕ) (node : Node) (e f whole : Figure) (v : ℕ) → get_or ns at Nothing ≡ node → at < length ns → 0 < n → leaf_size node ≡ None →
    joined_size node (limit e) (limit f) ≡ Some v → v ≡ limit whole → length (figure_nodes whole) ≡ suc (length (figure_nodes e) + length (figure_nodes f)) →
    (FigureWithin whole → FigureWithin e × FigureWithin f × (v < 4294967296)) → (FigureWithin e → FigureWithin f → v < 4294967296 → FigureWithin whole) →
    Weighs e ns (n - 1) (at + 1) → Weighs f ns (n - 1) (at + 1 + length (figure_nodes e)) → Weighs whole ns n at
pair_weighs ns n at node e f whole v is l k leaf joins worth long out back (inr p) q = inr (λ w. p.0 (out w).0, grind (arith, nat_tests, largest_step))
pair_weighs ns n at node e f whole v is l k leaf joins worth long out back (inl p) (inr q) = inr (λ w. q.0 (out w).1, grind (arith, nat_tests, largest_step))
pair_weighs ns n at node e f whole v is l k leaf joins worth long out back (inl p) (inl q) = by (cases_lt v 4294967296)
  where
    next : at + 1 + length (figure_nodes e) + length (figure_nodes f) ≡ at + length (figure_nodes whole)
    next = omega arith

    by : (v < 4294967296) ⊎ (4294967296 ≤ v) → Weighs whole ns n at
    by (inl h) = inl (back p.0 q.0 h, grind (arith, nat_tests, largest_step))
    by (inr h) = inr (λ w. let m = (out w).2 in omega arith, grind (arith, nat_tests, largest_step))

leaf_weighs : (ns : List Node) (n at : ℕ) (node : Node) (e : Figure) (v : ℕ) → StandsAt ns at (node ∷ []) → 1 ≤ n → length (figure_nodes e) ≡ 1 →
    leaf_size node ≡ Some v → (v < 4294967296 → (v ≡ limit e) × FigureWithin e) → (4294967296 ≤ v → FigureWithin e → ⊥) → Weighs e ns n at
leaf_weighs ns n at node e v s k long leaf low high = by (cases_lt v 4294967296) (stands_head ns at node [] s) (stands_within ns at node [] s)
  where
    by : (v < 4294967296) ⊎ (4294967296 ≤ v) → get_or ns at Nothing ≡ node → at < length ns → Weighs e ns n at
    by (inl h) is l =
        let m = low h in
        let worth : v ≡ limit e = m.0 in
        inl (m.1, grind (arith, nat_tests, largest_step))
    by (inr h) is l = inr (high h, grind (arith, nat_tests, largest_step))

-- what stands within two figures
module _ (ns : List Node) (at : ℕ) (node : Node) (e f : Figure) (s : StandsAt ns at (node ∷ (figure_nodes e ++ figure_nodes f))) where
  here : get_or ns at Nothing ≡ node
  here = stands_head ns at node (figure_nodes e ++ figure_nodes f) s

  inside : at < length ns
  inside = stands_within ns at node (figure_nodes e ++ figure_nodes f) s

  first : StandsAt ns (at + 1) (figure_nodes e)
  first = stands_left ns (at + 1) (figure_nodes e) (figure_nodes f) (stands_tail ns at node (figure_nodes e ++ figure_nodes f) s)

  second : StandsAt ns (at + 1 + length (figure_nodes e)) (figure_nodes f)
  second = stands_right ns (at + 1) (figure_nodes e) (figure_nodes f) (stands_tail ns at node (figure_nodes e ++ figure_nodes f) s)

long_two : (e f : Figure) → length (figure_nodes (plus e f)) ≡ suc (length (figure_nodes e) + length (figure_nodes f))
long_two e f = omega (arith, length-append (figure_nodes e) (figure_nodes f))

pub weighs : (e : Figure) (ns : List Node) (n at : ℕ) → StandsAt ns at (figure_nodes e) → length (figure_nodes e) ≤ n → Weighs e ns n at
unfolding limit FigureWithin
weighs (fixed a) ns n at s k =
    let held = held_size a in
    leaf_weighs ns n at (Fixed (capped_amount a)) (fixed a) (nat_abs (capped_amount a)) s k refl refl (λ h. let m : nat_abs (capped_amount a) ≡ size a = omega arith in (m, omega arith)) (λ h w. omega arith)
weighs (rate j i) ns n at s k = leaf_weighs ns n at (Rate (capped j) (capped i)) (rate j i) 1000000000 s k refl refl (λ h. (refl, tt)) (λ h w. omega arith)
weighs day ns n at s k = leaf_weighs ns n at Day day 65536 s k refl refl (λ h. (refl, tt)) (λ h w. omega arith)
weighs (plus e f) ns n at s k =
    let long = long_two e f in
    pair_weighs ns n at Plus e f (plus e f) (limit e + limit f) (here ns at Plus e f s) (inside ns at Plus e f s) (omega arith) refl refl refl long (λ w. w) (λ p q r. (p, q, r))
    (weighs e ns (n - 1) (at + 1) (first ns at Plus e f s) (omega arith)) (weighs f ns (n - 1) (at + 1 + length (figure_nodes e)) (second ns at Plus e f s) (omega arith))
weighs (minus e f) ns n at s k =
    let long = long_two e f in
    pair_weighs ns n at Minus e f (minus e f) (limit e + limit f) (here ns at Minus e f s) (inside ns at Minus e f s) (omega arith) refl refl refl long (λ w. w) (λ p q r. (p, q, r))
    (weighs e ns (n - 1) (at + 1) (first ns at Minus e f s) (omega arith)) (weighs f ns (n - 1) (at + 1 + length (figure_nodes e)) (second ns at Minus e f s) (omega arith))
weighs (times e f) ns n at s k =
    let long = long_two e f in
    pair_weighs ns n at Times e f (times e f) (suc (limit e * limit f / million)) (here ns at Times e f s) (inside ns at Times e f s) (omega arith) refl refl refl long (λ w. w) (λ p q r. (p, q, r))
    (weighs e ns (n - 1) (at + 1) (first ns at Times e f s) (omega arith)) (weighs f ns (n - 1) (at + 1 + length (figure_nodes e)) (second ns at Times e f s) (omega arith))
weighs (most e f) ns n at s k =
    let long = long_two e f in
    pair_weighs ns n at Max e f (most e f) (limit e + limit f) (here ns at Max e f s) (inside ns at Max e f s) (omega arith) refl refl refl long (λ w. w) (λ p q r. (p, q, r))
    (weighs e ns (n - 1) (at + 1) (first ns at Max e f s) (omega arith)) (weighs f ns (n - 1) (at + 1 + length (figure_nodes e)) (second ns at Max e f s) (omega arith))
weighs (less e f) ns n at s k =
    let long = long_two e f in
    pair_weighs ns n at Less e f (less e f) 1 (here ns at Less e f s) (inside ns at Less e f s) (omega arith) refl refl refl long (λ w. (w.0, w.1, omega arith)) (λ p q r. (p, q))
    (weighs e ns (n - 1) (at + 1) (first ns at Less e f s) (omega arith)) (weighs f ns (n - 1) (at + 1 + length (figure_nodes e)) (second ns at Less e f s) (omega arith))

-- CONTRACTS
pub within_moves : (x : Contract) → PartsWithin x → moves x < 1099511627776
unfolding moves PartsWithin
within_moves nothing h = omega arith
within_moves (pays k a) h = h
within_moves (turned x) h = within_moves x h
within_moves (both x y) h = h.2
within_moves (choice x y) h = h.2
within_moves (either e x y) h = h.3
within_moves (scaled e x) h = h.2
within_moves (on_day d x) h = within_moves x h
within_moves (when e x) h = within_moves x h.1
within_moves (by_day d x) h = within_moves x h

abbrev measure_of : Contract → ℕ → Measure
measure_of x next = record { moves = moves x; parts = parts x; deep = deep x; next = next }

abbrev Means : Contract → List Node → ℕ → ℕ → Type 0
Means x ns n at =
    (PartsWithin x × (measured_at ns n at ≡ Some (measure_of x (at + length (nodes_of x))))) ⊎ ((PartsWithin x → ⊥) × (measured_at ns n at ≡ None))

-- the figure before the parts, of which S says that it is within limits
abbrev Scales : Type 0 → Option (ℕ × ℕ) → ℕ → ℕ → Type 0
Scales S r v next = (S × (r ≡ Some (v, next))) ⊎ ((S → ⊥) × (r ≡ None))

module _ (ns : List Node) (n at : ℕ) (node : Node) (S : Type 0) (v next : ℕ) (is : get_or ns at Nothing ≡ node) (l : at < length ns) (k : 0 < n)
    (alone' : single_measure node (at + 1) ≡ None) where
  one_means : (x w : Contract) → is_pair node ≡ false → alone node v (measure_of x (next + length (nodes_of x))) ≡ Some (measure_of w (next + length (nodes_of x))) →
      next + length (nodes_of x) ≡ at + length (nodes_of w) →
      (PartsWithin w → S × PartsWithin x × (moves w < 1099511627776)) → (S → PartsWithin x → moves w < 1099511627776 → PartsWithin w) →
      Scales S (scale_at ns node n (at + 1)) v next → Means x ns (n - 1) next → Means w ns n at
  one_means x w single joins long out back (inr p) q = inr (λ h. p.0 (out h).0, grind (arith, nat_tests, measured_step))
  one_means x w single joins long out back (inl p) (inr q) = inr (λ h. q.0 (out h).1, grind (arith, nat_tests, measured_step))
  one_means x w single joins long out back (inl p) (inl q) = by (cases_lt (moves w) 1099511627776)
    where
      by : (moves w < 1099511627776) ⊎ (1099511627776 ≤ moves w) → Means w ns n at
      by (inl h) = inl (back p.0 q.0 h, grind (arith, nat_tests, measured_step))
      by (inr h) = inr (λ g. let m = (out g).2 in omega arith, grind (arith, nat_tests, measured_step))

  two_means : (x y w : Contract) → is_pair node ≡ true →
      moves w ≡ moves x + moves y → parts w ≡ parts x + parts y → deep w ≡ deep_of_two node (larger (below (deep x)) (below (deep y))) →
      next + length (nodes_of x) + length (nodes_of y) ≡ at + length (nodes_of w) →
      (PartsWithin w → S × PartsWithin x × PartsWithin y × (moves w < 1099511627776)) → (S → PartsWithin x → PartsWithin y → moves w < 1099511627776 → PartsWithin w) →
      Scales S (scale_at ns node n (at + 1)) v next → Means x ns (n - 1) next → Means y ns (n - 1) (next + length (nodes_of x)) → Means w ns n at
  two_means x y w double mv pt dp long out back (inr p) q r = inr (λ h. p.0 (out h).0, grind (arith, nat_tests, measured_step))
  two_means x y w double mv pt dp long out back (inl p) (inr q) r = inr (λ h. q.0 (out h).1, grind (arith, nat_tests, measured_step))
  two_means x y w double mv pt dp long out back (inl p) (inl q) (inr r) = inr (λ h. r.0 (out h).2, grind (arith, nat_tests, measured_step))
  two_means x y w double mv pt dp long out back (inl p) (inl q) (inl r) = by (cases_lt (moves w) 1099511627776)
    where
      by : (moves w < 1099511627776) ⊎ (1099511627776 ≤ moves w) → Means w ns n at
      by (inl h) = inl (back p.0 q.0 r.0 h, grind (arith, nat_tests, measured_step))
      by (inr h) = inr (λ g. let m = (out g).3 in omega arith, grind (arith, nat_tests, measured_step))

leaf_means : (ns : List Node) (n at : ℕ) (node : Node) (x : Contract) (m : Measure) → StandsAt ns at (node ∷ []) → 1 ≤ n → length (nodes_of x) ≡ 1 →
    single_measure node (at + 1) ≡ Some m → (m.moves < 1099511627776 → (m ≡ measure_of x (at + 1)) × PartsWithin x) → (1099511627776 ≤ m.moves → PartsWithin x → ⊥) → Means x ns n at
leaf_means ns n at node x m s k long leaf low high = by (cases_lt m.moves 1099511627776) (stands_head ns at node [] s) (stands_within ns at node [] s)
  where
    by : (m.moves < 1099511627776) ⊎ (1099511627776 ≤ m.moves) → get_or ns at Nothing ≡ node → at < length ns → Means x ns n at
    by (inl h) is l =
        let f = low h in
        let worth : m ≡ measure_of x (at + 1) = f.0 in
        inl (f.1, grind (arith, nat_tests, measured_step))
    by (inr h) is l = inr (high h, grind (arith, nat_tests, measured_step))

pub means : (x : Contract) (ns : List Node) (n at : ℕ) → StandsAt ns at (nodes_of x) → length (nodes_of x) ≤ n → Means x ns n at
unfolding moves parts deep PartsWithin
means nothing ns n at s k = leaf_means ns n at Nothing nothing (record { moves = 0; parts = 0; deep = 0; next = at + 1 }) s k refl refl (λ h. (refl, tt)) (λ h w. omega arith)
means (pays j a) ns n at s k =
    let held = held_size a in
    leaf_means ns n at (Pays (capped j) (capped_amount a)) (pays j a) (record { moves = nat_abs (capped_amount a); parts = 1; deep = 0; next = at + 1 }) s k refl refl
    (λ h. let m : nat_abs (capped_amount a) ≡ size a = omega arith in (ap (λ z. record { moves = z; parts = 1; deep = 0; next = at + 1 }) m, omega arith)) (λ h w. omega arith)
means (turned x) ns n at s k =
    one_means ns n at Turned (Unit {0}) 0 (at + 1) (stands_head ns at Turned (nodes_of x) s) (stands_within ns at Turned (nodes_of x) s) (omega arith) refl x (turned x) refl refl (omega arith)
    (λ w. (tt, w, within_moves x w)) (λ _ w _. w) (inl (tt, refl)) (means x ns (n - 1) (at + 1) (stands_tail ns at Turned (nodes_of x) s) (omega arith))
means (on_day d x) ns n at s k =
    one_means ns n at (On (capped d)) (Unit {0}) 0 (at + 1) (stands_head ns at (On (capped d)) (nodes_of x) s) (stands_within ns at (On (capped d)) (nodes_of x) s) (omega arith) refl x (on_day d x) refl refl (omega arith)
    (λ w. (tt, w, within_moves x w)) (λ _ w _. w) (inl (tt, refl)) (means x ns (n - 1) (at + 1) (stands_tail ns at (On (capped d)) (nodes_of x) s) (omega arith))
means (by_day d x) ns n at s k =
    one_means ns n at (By (capped d)) (Unit {0}) 0 (at + 1) (stands_head ns at (By (capped d)) (nodes_of x) s) (stands_within ns at (By (capped d)) (nodes_of x) s) (omega arith) refl x (by_day d x) refl refl (omega arith)
    (λ w. (tt, w, within_moves x w)) (λ _ w _. w) (inl (tt, refl)) (means x ns (n - 1) (at + 1) (stands_tail ns at (By (capped d)) (nodes_of x) s) (omega arith))
means (both x y) ns n at s k =
    let tail = stands_tail ns at Both (nodes_of x ++ nodes_of y) s in
    let long = length-append (nodes_of x) (nodes_of y) in
    two_means ns n at Both (Unit {0}) 0 (at + 1) (stands_head ns at Both (nodes_of x ++ nodes_of y) s) (stands_within ns at Both (nodes_of x ++ nodes_of y) s) (omega arith) refl x y (both x y) refl refl refl refl (omega arith)
    (λ w. (tt, w.0, w.1, w.2)) (λ _ p q r. (p, q, r)) (inl (tt, refl)) (means x ns (n - 1) (at + 1) (stands_left ns (at + 1) (nodes_of x) (nodes_of y) tail) (omega arith))
    (means y ns (n - 1) (at + 1 + length (nodes_of x)) (stands_right ns (at + 1) (nodes_of x) (nodes_of y) tail) (omega arith))
means (choice x y) ns n at s k =
    let tail = stands_tail ns at Choice (nodes_of x ++ nodes_of y) s in
    let long = length-append (nodes_of x) (nodes_of y) in
    two_means ns n at Choice (Unit {0}) 0 (at + 1) (stands_head ns at Choice (nodes_of x ++ nodes_of y) s) (stands_within ns at Choice (nodes_of x ++ nodes_of y) s) (omega arith) refl x y (choice x y) refl refl refl refl (omega arith)
    (λ w. (tt, w.0, w.1, w.2)) (λ _ p q r. (p, q, r)) (inl (tt, refl)) (means x ns (n - 1) (at + 1) (stands_left ns (at + 1) (nodes_of x) (nodes_of y) tail) (omega arith))
    (means y ns (n - 1) (at + 1 + length (nodes_of x)) (stands_right ns (at + 1) (nodes_of x) (nodes_of y) tail) (omega arith))
means (either e x y) ns n at s k =
    let tail = stands_tail ns at If (figure_nodes e ++ (nodes_of x ++ nodes_of y)) s in
    let behind = stands_right ns (at + 1) (figure_nodes e) (nodes_of x ++ nodes_of y) tail in
    let long = length-append (figure_nodes e) (nodes_of x ++ nodes_of y) in
    let long' = length-append (nodes_of x) (nodes_of y) in
    let next = at + 1 + length (figure_nodes e) in
    two_means ns n at If (FigureWithin e) (limit e) next (stands_head ns at If (figure_nodes e ++ (nodes_of x ++ nodes_of y)) s) (stands_within ns at If (figure_nodes e ++ (nodes_of x ++ nodes_of y)) s) (omega arith) refl
    x y (either e x y) refl refl refl refl (omega arith) (λ w. w) (λ o p q r. (o, p, q, r))
    (weighs e ns n (at + 1) (stands_left ns (at + 1) (figure_nodes e) (nodes_of x ++ nodes_of y) tail) (omega arith))
    (means x ns (n - 1) next (stands_left ns next (nodes_of x) (nodes_of y) behind) (omega arith))
    (means y ns (n - 1) (next + length (nodes_of x)) (stands_right ns next (nodes_of x) (nodes_of y) behind) (omega arith))
means (scaled e x) ns n at s k =
    let tail = stands_tail ns at Of (figure_nodes e ++ nodes_of x) s in
    let long = length-append (figure_nodes e) (nodes_of x) in
    let next = at + 1 + length (figure_nodes e) in
    one_means ns n at Of (FigureWithin e) (limit e) next (stands_head ns at Of (figure_nodes e ++ nodes_of x) s) (stands_within ns at Of (figure_nodes e ++ nodes_of x) s) (omega arith) refl
    x (scaled e x) refl refl (omega arith) (λ w. w) (λ o p q. (o, p, q))
    (weighs e ns n (at + 1) (stands_left ns (at + 1) (figure_nodes e) (nodes_of x) tail) (omega arith))
    (means x ns (n - 1) next (stands_right ns (at + 1) (figure_nodes e) (nodes_of x) tail) (omega arith))
means (when e x) ns n at s k =
    let tail = stands_tail ns at When (figure_nodes e ++ nodes_of x) s in
    let long = length-append (figure_nodes e) (nodes_of x) in
    let next = at + 1 + length (figure_nodes e) in
    one_means ns n at When (FigureWithin e) (limit e) next (stands_head ns at When (figure_nodes e ++ nodes_of x) s) (stands_within ns at When (figure_nodes e ++ nodes_of x) s) (omega arith) refl
    x (when e x) refl refl (omega arith) (λ w. (w.0, w.1, within_moves x w.1)) (λ o p q. (o, p))
    (weighs e ns n (at + 1) (stands_left ns (at + 1) (figure_nodes e) (nodes_of x) tail) (omega arith))
    (means x ns (n - 1) next (stands_right ns (at + 1) (figure_nodes e) (nodes_of x) tail) (omega arith))

-- a whole row: nothing is worked out of more than 256 nodes
pub measured_whole : (x : Contract) (row : List Node) → (length (nodes_of x) ≤ 256 → row ≡ nodes_of x) → (256 < length (nodes_of x) → row ≡ []) →
    ((marks x ≤ 256) × PartsWithin x × (measured_at row 256 0 ≡ Some (measure_of x (length (nodes_of x))))) ⊎ ((marks x ≤ 256 → PartsWithin x → ⊥) × (measured_at row 256 0 ≡ None))
measured_whole x row all none = by (cases_lt 256 (length (nodes_of x)))
  where
    count : length (nodes_of x) ≡ marks x
    count = nodes_length x

    by : (256 < length (nodes_of x)) ⊎ (length (nodes_of x) ≤ 256) →
        ((marks x ≤ 256) × PartsWithin x × (measured_at row 256 0 ≡ Some (measure_of x (length (nodes_of x))))) ⊎ ((marks x ≤ 256 → PartsWithin x → ⊥) × (measured_at row 256 0 ≡ None))
    by (inl h) = inr (λ few _. omega (arith, count), ap (λ z. measured_at z 256 0) (none h) ∙ measured_none [] 256 0 (inr (omega arith)))
    by (inr h) = told (means x (nodes_of x) 256 0 (stands_whole (nodes_of x)) h)
      where
        told : Means x (nodes_of x) 256 0 →
            ((marks x ≤ 256) × PartsWithin x × (measured_at row 256 0 ≡ Some (measure_of x (length (nodes_of x))))) ⊎ ((marks x ≤ 256 → PartsWithin x → ⊥) × (measured_at row 256 0 ≡ None))
        told (inl m) =
            let same : 0 + length (nodes_of x) ≡ length (nodes_of x) = omega arith in
            inl (omega (arith, count), m.0, ap (λ z. measured_at z 256 0) (all h) ∙ m.1 ∙ ap (λ k. Some (measure_of x k)) same)
        told (inr m) = inr (λ _ w. m.0 w, ap (λ z. measured_at z 256 0) (all h) ∙ m.1)

told_some : (x : Contract) (row : List Node) (m : Measure) → (length (nodes_of x) ≤ 256 → row ≡ nodes_of x) → (256 < length (nodes_of x) → row ≡ []) →
    measured_at row 256 0 ≡ Some m → MatchBool (leb m.deep 65) (IsWithinLimits x) (IsWithinLimits x → ⊥)
told_some x row m all none e = by (measured_whole x row all none)
  where
    at_deep : (d : ℕ) → d ≡ deep x → marks x ≤ 256 → PartsWithin x → MatchBool (leb d 65) (IsWithinLimits x) (IsWithinLimits x → ⊥)
    at_deep d same few small = told (cases_lt 65 d)
      where
        told : (65 < d) ⊎ (d ≤ 65) → MatchBool (leb d 65) (IsWithinLimits x) (IsWithinLimits x → ⊥)
        told (inl l) = rw (lt-leb d 65 l) (λ w. let f = w.flat in omega (arith, same))
        told (inr l) = rw (le-leb d 65 l) (record { few = few; flat = omega (arith, same); small = small })

    by : ((marks x ≤ 256) × PartsWithin x × (measured_at row 256 0 ≡ Some (measure_of x (length (nodes_of x))))) ⊎ ((marks x ≤ 256 → PartsWithin x → ⊥) × (measured_at row 256 0 ≡ None)) →
        MatchBool (leb m.deep 65) (IsWithinLimits x) (IsWithinLimits x → ⊥)
    by (inl p) = let same : m ≡ measure_of x (length (nodes_of x)) = same_Some m (measure_of x (length (nodes_of x))) (sym e ∙ p.2) in at_deep m.deep (ap (λ z. z.deep) same) p.0 p.1
    by (inr p) = absurd (none-some m (sym p.1 ∙ e))

told_none : (x : Contract) (row : List Node) → (length (nodes_of x) ≤ 256 → row ≡ nodes_of x) → (256 < length (nodes_of x) → row ≡ []) →
    measured_at row 256 0 ≡ None → IsWithinLimits x → ⊥
told_none x row all none e w = by (measured_whole x row all none)
  where
    by : ((marks x ≤ 256) × PartsWithin x × (measured_at row 256 0 ≡ Some (measure_of x (length (nodes_of x))))) ⊎ ((marks x ≤ 256 → PartsWithin x → ⊥) × (measured_at row 256 0 ≡ None)) → ⊥
    by (inl p) = none-some (measure_of x (length (nodes_of x))) (sym e ∙ p.2)
    by (inr p) = p.0 w.few w.small

-- an answer r about the measure, if there is one, says whether the choices are flat
pub within_limits_lem : (x : Contract) (row : List Node) (o : Option Measure) (r : Bool) (Answers : Measure → Type 0) → (length (nodes_of x) ≤ 256 → row ≡ nodes_of x) → (256 < length (nodes_of x) → row ≡ []) →
    o ≡ measured_at row 256 0 → ((m : Measure) → Answers m → r ≡ leb m.deep 65) → MatchOption o (r ≡ false) Answers → MatchBool r (IsWithinLimits x) (IsWithinLimits x → ⊥)
within_limits_lem x row None r Answers all none e flat is = subst (λ b. MatchBool b (IsWithinLimits x) (IsWithinLimits x → ⊥)) (sym is) (told_none x row all none (sym e))
within_limits_lem x row (Some m) r Answers all none e flat is = subst (λ b. MatchBool b (IsWithinLimits x) (IsWithinLimits x → ⊥)) (sym (flat m is)) (told_some x row m all none (sym e))
