-- One step of each recursion, at a number that isn't 0.
use Rattle.std.proofs.Common.{◌≡◌, ℕ, zero, suc, ◌+◌, ◌-◌, ◌<◌, ◌≤◌, List, length, get_or, drop, ℤ, refl, ap, arith}
use Rattle.std.proofs.lemmas.List.{drop_more, drop_all}
use Rattle.std.proofs.lemmas.Bool.{lt-ltb, le-ltb}
use Rattle.residual.specs.declared.cells.Row.{Row}
use Rattle.residual.specs.Layout.{node_at, above_at}
use Rattle.texts.specs.declared.nodes.Node.{Node}
use Rattle.texts.specs.declared.nodes.Node.TheVariants.{Nothing}
use Rattle.residual.specs.Laying.{written, by_mark, laid}
use Rattle.residual.specs.Steps.{State, by_above, seen_through, by_node, begun, row_woken, woken}

pred_of : (n : ℕ) → suc n - 1 ≡ n
pred_of n = omega arith

pub through_zero : (n : ℕ) (s : List ℕ) (j : ℕ) (a : ℤ) → n ≡ 0 → seen_through n s j a ≡ a
unfolding seen_through
through_zero n s j a e = rw e

pub through_step : (n : ℕ) (s : List ℕ) (j : ℕ) (a : ℤ) → 0 < n → seen_through n s j a ≡ by_above (seen_through (n - 1) s) a (above_at s j)
unfolding seen_through
through_step zero s j a p = absurd (omega arith)
through_step (suc n) s j a p = rw (pred_of n)

pub ruleset through_steps = (through_zero, through_step)

pub begun_zero : (n t i e j : ℕ) (st : State) → n ≡ 0 → begun n t i e j st ≡ st
unfolding begun
begun_zero n t i e j st z = rw z

pub begun_past : (n t i e j : ℕ) (st : State) → e ≤ i → begun n t i e j st ≡ st
unfolding begun
begun_past zero t i e j st h = refl
begun_past (suc n) t i e j st h = rw (le-ltb i e h)

pub begun_step : (n t i e j : ℕ) (st : State) → 0 < n → i < e →
    begun n t i e j st ≡ by_node (λ i' e' j' st'. begun (n - 1) t i' e' j' st') t i e j st (node_at st.bytes i)
unfolding begun
begun_step zero t i e j st p h = absurd (omega arith)
begun_step (suc n) t i e j st p h = rw (lt-ltb i e h, pred_of n)

pub ruleset begun_steps = (begun_zero, begun_past, begun_step)

pub woken_none : (t : ℕ) (rows : List Row) (k : ℕ) (st : State) → length rows ≤ k → woken t (drop k rows) st ≡ st
unfolding woken
woken_none t rows k st h = ap (λ z. woken t z st) (drop_all k rows h)

pub woken_more : (t : ℕ) (rows : List Row) (k : ℕ) (st : State) → k < length rows →
    woken t (drop k rows) st ≡ woken t (drop (k + 1) rows) (row_woken t (get_or rows k (record { day = 0; part = 0; end = 0; above = 0 })) st)
unfolding woken
woken_more t rows k st h =
    let none : Row = record { day = 0; part = 0; end = 0; above = 0 } in ap (λ z. woken t z st) (drop_more rows k none h)

pub ruleset woken_steps = (woken_none, woken_more)

pub laid_zero : (n : ℕ) (ms : List Node) (i : ℕ) (s : List ℕ) → n ≡ 0 → laid n ms i s ≡ written s i
unfolding laid
laid_zero n ms i s z = rw z

pub laid_past : (n : ℕ) (ms : List Node) (i : ℕ) (s : List ℕ) → length ms ≤ i → laid n ms i s ≡ written s i
unfolding laid
laid_past zero ms i s h = refl
laid_past (suc n) ms i s h = rw (le-ltb i (length ms) h)

pub laid_step : (n : ℕ) (ms : List Node) (i : ℕ) (s : List ℕ) → 0 < n → i < length ms → laid n ms i s ≡ by_mark (λ i' s'. laid (n - 1) ms i' s') i s (get_or ms i Nothing)
unfolding laid
laid_step zero ms i s p h = absurd (omega arith)
laid_step (suc n) ms i s p h = rw (lt-ltb i (length ms) h, pred_of n)

pub ruleset laid_steps = (laid_zero, laid_past, laid_step)
