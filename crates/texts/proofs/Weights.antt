-- What the limits come to that are worked out over nodes. Assumes nothing.
use Rattle.std.proofs.lemmas.Option.{none-some, same_Some}
use Rattle.std.proofs.Common.{◌≡◌, ℕ, zero, suc, ◌+◌, ◌-◌, ◌*◌, ◌/◌, ◌%◌, ◌<◌, ◌≤◌, ◌⊎◌, List, length, get_or, IfSome, Some, None, Option, sym, refl, ap, ◌∙◌, subst, inl, inr, arith}
use Rattle.std.proofs.lemmas.Bool.{cases_lt, cases_eq, lt-ltb, le-ltb, le-leb, lt-leb}
use Rattle.deals.specs.Contract.{larger, million}
use Rattle.deals.specs.Promise.{below}
use Rattle.texts.specs.Limits.{largest_node, largest_at, scale_at, deep_of_two, together, alone, bounded, measured_node, measured_at, MeasureLow}
use Rattle.texts.specs.declared.limits.Measure.{Measure}
use Rattle.texts.specs.declared.nodes.Node.{Node}
use Rattle.texts.specs.declared.nodes.Node.TheVariants.{Nothing, Pays, Turned, Both, Choice, If, Of, On, When, By, Fixed, Rate, Day, Plus, Minus, Times, Max, Less}

-- a product over a million, of the millions and of the rest
split_product : (q r b m : ℕ) → (m * q + r) * b ≡ m * (q * b) + r * b
split_product q r b m = omega arith

pub over_million_lem : (a b : ℕ) → a / 1000000 * b + a % 1000000 * b / 1000000 ≡ a * b / 1000000
over_million_lem a b =
    let split : a ≡ 1000000 * (a / 1000000) + a % 1000000 = omega arith in
    let whole : a * b ≡ 1000000 * (a / 1000000 * b) + a % 1000000 * b = ap (λ n. n * b) split ∙ split_product (a / 1000000) (a % 1000000) b 1000000 in
    omega arith

-- how deep
pub below_none : (n : ℕ) → n ≡ 0 → 0 ≡ below n
unfolding below
below_none zero e = refl
below_none (suc n) e = absurd (omega arith)

pub below_some : (n : ℕ) → (n ≡ 0 → ⊥) → n + 1 ≡ below n
unfolding below
below_some zero e = absurd (e refl)
below_some (suc n) e = omega arith

-- one step over the nodes of a figure
pub largest_none : (ns : List Node) (n at : ℕ) → (n ≡ 0) ⊎ (length ns ≤ at) → largest_at ns n at ≡ None
unfolding largest_at
largest_none ns zero at h = refl
largest_none ns (suc n) at (inl e) = absurd (omega arith)
largest_none ns (suc n) at (inr l) = rw (le-leb (length ns) at l)

pub largest_step : (ns : List Node) (n at : ℕ) → 0 < n → at < length ns → largest_at ns n at ≡ largest_node (get_or ns at Nothing) at (largest_at ns (n - 1))
unfolding largest_at
largest_step ns zero at h l = absurd (omega arith)
largest_step ns (suc n) at h l =
    let same : suc n - 1 ≡ n = omega arith in
    rw (lt-leb (length ns) at l) (ap (λ k. largest_node (get_or ns at Nothing) at (largest_at ns k)) (sym same))

-- one step over the nodes of a contract
pub measured_none : (ns : List Node) (n at : ℕ) → (n ≡ 0) ⊎ (length ns ≤ at) → measured_at ns n at ≡ None
unfolding measured_at
measured_none ns zero at h = refl
measured_none ns (suc n) at (inl e) = absurd (omega arith)
measured_none ns (suc n) at (inr l) = rw (le-leb (length ns) at l)

pub measured_step : (ns : List Node) (n at : ℕ) → 0 < n → at < length ns →
    measured_at ns n at ≡ measured_node (get_or ns at Nothing) at (scale_at ns (get_or ns at Nothing) n) (measured_at ns (n - 1))
unfolding measured_at
measured_step ns zero at h l = absurd (omega arith)
measured_step ns (suc n) at h l =
    let same : suc n - 1 ≡ n = omega arith in
    rw (lt-leb (length ns) at l) (ap (λ k. measured_node (get_or ns at Nothing) at (scale_at ns (get_or ns at Nothing) (suc n)) (measured_at ns k)) (sym same))

-- nothing passes its bounds
abbrev Low : List Node → ℕ → Option Measure → Type 0
Low ns at r = IfSome r (MeasureLow ns at)

bounded_low : (ns : List Node) (at : ℕ) (r : Option Measure) (m : Measure) → r ≡ bounded m → m.parts + at ≤ m.next → m.deep + at ≤ m.next → at < m.next → m.next ≤ length ns → Low ns at r
bounded_low ns at r m e few flat on within = subst (λ z. Low ns at z) (sym e) (by (cases_lt m.moves 1099511627776))
  where
    by : (m.moves < 1099511627776) ⊎ (1099511627776 ≤ m.moves) → Low ns at (bounded m)
    by (inl h) = rw (lt-ltb m.moves 1099511627776 h) (record { moved = h; few = few; flat = flat; on = on; within = within })
    by (inr h) = rw (le-ltb m.moves 1099511627776 h) tt

below_le : (n m : ℕ) → n < m → below n ≤ m
below_le n m l = by (cases_eq n 0)
  where
    by : (n ≡ 0) ⊎ (n ≡ 0 → ⊥) → below n ≤ m
    by (inl e) = omega (arith, below_none n e)
    by (inr e) = omega (arith, below_some n e)

larger_le : (a b m : ℕ) → a ≤ m → b ≤ m → larger a b ≤ m
larger_le a b m h k = by (cases_lt a b)
  where
    by : (a < b) ⊎ (b ≤ a) → larger a b ≤ m
    by (inl l) = rw (lt-ltb a b l) k
    by (inr l) = rw (le-ltb a b l) h

deep_two_le : (node : Node) (n m : ℕ) → 1 ≤ m → n ≤ m → deep_of_two node n ≤ m
deep_two_le Nothing n m u v = v
deep_two_le (Pays j a) n m u v = v
deep_two_le Turned n m u v = v
deep_two_le Both n m u v = v
deep_two_le Choice n m u v = larger_le 1 n m u v
deep_two_le If n m u v = v
deep_two_le Of n m u v = v
deep_two_le (On d) n m u v = v
deep_two_le When n m u v = v
deep_two_le (By d) n m u v = v
deep_two_le (Fixed a) n m u v = v
deep_two_le (Rate j l) n m u v = v
deep_two_le Day n m u v = v
deep_two_le Plus n m u v = v
deep_two_le Minus n m u v = v
deep_two_le Times n m u v = v
deep_two_le Max n m u v = v
deep_two_le Less n m u v = v

pub together_low : (ns : List Node) (at next : ℕ) (r : Option Measure) (node : Node) (x y : Measure) → MeasureLow ns next x → MeasureLow ns x.next y → at < next → r ≡ bounded (together node x y) → Low ns at r
together_low ns at next r node x y p q l b =
    let flat = deep_two_le node (larger (below x.deep) (below y.deep)) (y.next - at) (omega arith)
    (larger_le (below x.deep) (below y.deep) (y.next - at) (below_le x.deep (y.next - at) (omega arith)) (below_le y.deep (y.next - at) (omega arith))) in
    bounded_low ns at r (together node x y) b (omega arith) (omega arith) (omega arith) q.within

alone_facts : (node : Node) (size d : ℕ) (x m : Measure) → 1 ≤ d → x.deep < d → alone node size x ≡ Some m → (m.parts ≡ x.parts) × (m.deep ≤ d) × (m.next ≡ x.next)
alone_facts Nothing size d x m h k e = absurd (none-some m e)
alone_facts (Pays j a) size d x m h k e = absurd (none-some m e)
alone_facts Turned size d x m h k e =
    let q = same_Some (record { moves = x.moves; parts = x.parts; deep = below x.deep; next = x.next }) m e in
    (sym (ap (λ z. z.parts) q), omega (arith, ap (λ z. z.deep) q, below_le x.deep d k), sym (ap (λ z. z.next) q))
alone_facts Both size d x m h k e = absurd (none-some m e)
alone_facts Choice size d x m h k e = absurd (none-some m e)
alone_facts If size d x m h k e = absurd (none-some m e)
alone_facts Of size d x m h k e =
    let q = same_Some (record { moves = x.moves * size / million + x.parts; parts = x.parts; deep = below x.deep; next = x.next }) m e in
    (sym (ap (λ z. z.parts) q), omega (arith, ap (λ z. z.deep) q, below_le x.deep d k), sym (ap (λ z. z.next) q))
alone_facts (On j) size d x m h k e =
    let q = same_Some (record { moves = x.moves; parts = x.parts; deep = below x.deep; next = x.next }) m e in
    (sym (ap (λ z. z.parts) q), omega (arith, ap (λ z. z.deep) q, below_le x.deep d k), sym (ap (λ z. z.next) q))
alone_facts When size d x m h k e =
    let q = same_Some (record { moves = x.moves; parts = x.parts; deep = below x.deep; next = x.next }) m e in
    (sym (ap (λ z. z.parts) q), omega (arith, ap (λ z. z.deep) q, below_le x.deep d k), sym (ap (λ z. z.next) q))
alone_facts (By j) size d x m h k e =
    let q = same_Some (record { moves = x.moves; parts = x.parts; deep = larger 1 (below x.deep); next = x.next }) m e in
    (sym (ap (λ z. z.parts) q), omega (arith, ap (λ z. z.deep) q, larger_le 1 (below x.deep) d h (below_le x.deep d k)), sym (ap (λ z. z.next) q))
alone_facts (Fixed a) size d x m h k e = absurd (none-some m e)
alone_facts (Rate j n) size d x m h k e = absurd (none-some m e)
alone_facts Day size d x m h k e = absurd (none-some m e)
alone_facts Plus size d x m h k e = absurd (none-some m e)
alone_facts Minus size d x m h k e = absurd (none-some m e)
alone_facts Times size d x m h k e = absurd (none-some m e)
alone_facts Max size d x m h k e = absurd (none-some m e)
alone_facts Less size d x m h k e = absurd (none-some m e)

pub alone_low : (ns : List Node) (at next size : ℕ) (r : Option Measure) (node : Node) (x m : Measure) → MeasureLow ns next x → at < next → alone node size x ≡ Some m → r ≡ bounded m → Low ns at r
alone_low ns at next size r node x m p l e b =
    let f = alone_facts node size (x.next - at) x m (omega arith) (omega arith) e in
    bounded_low ns at r m b (omega arith) (omega arith) (omega arith) (omega arith)
