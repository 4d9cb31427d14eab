-- What stands in a deal's part, as rows and entries are added.
use Rattle.std.proofs.Common.{◌≡◌, ℕ, suc, ◌+◌, ◌*◌, ◌<◌, ◌≤◌, min, List, [], ◌∷◌, ◌++◌, length, sym, ap, ◌∙◌, subst, inl, inr, arith}
use Rattle.std.proofs.ByRecursion.{All-append, All-weaker}
use Rattle.std.proofs.lemmas.List.{length-append}
use Rattle.std.proofs.lemmas.Bool.Decides.{nat_tests}
use Rattle.std.proofs.lemmas.Bool.{lt-ltb}
use Rattle.deals.specs.Contract.{Contract}
use Rattle.deals.specs.Residual.{turn, Waits, starts, first_true, by_choice}
use Rattle.deals.specs.Shared.{Entry, Slot}
use Rattle.deals.specs.Sleep.{wake, row_wake, smaller}
use Rattle.residual.specs.declared.cells.Row.{Row}
use Rattle.residual.specs.Layout.{row_at, put_row, node_at, above_at, put_turn, above_place}
use Rattle.residual.specs.Steps.{State, with_row, with_turn}
use Rattle.residual.specs.Deal.{Stands, is_nothing, is_pays, is_turned, is_both, is_on_day, Coded, Table, Awaited, Rows, LeftStands}
use Rattle.residual.proofs.Writes.{Apart, row_put, row_apart, turn_put, turn_apart, row_same, node_same, above_same}

-- the nodes are the same
abbrev pub NodesSame : List ℕ → List ℕ → Type 0
NodesSame s s' = (i : ℕ) → node_at s' i ≡ node_at s i

pub stands_same : {s s' : List ℕ} {i e : ℕ} {x : Contract} → NodesSame s s' → Stands s i e x → Stands s' i e x
stands_same f (is_nothing {i = i} h) = is_nothing (f i ∙ h)
stands_same f (is_pays {i = i} h) = is_pays (f i ∙ h)
stands_same f (is_turned {i = i} h x) = is_turned (f i ∙ h) (stands_same f x)
stands_same f (is_both {i = i} h x y) = is_both (f i ∙ h) (stands_same f x) (stands_same f y)
stands_same f (is_on_day {i = i} h d x) = is_on_day (f i ∙ h) d (stands_same f x)

-- a contract takes places of its own
pub stands_long : {s : List ℕ} {i e : ℕ} {x : Contract} → Stands s i e x → i < e
stands_long (is_nothing h) = omega arith
stands_long (is_pays h) = omega arith
stands_long (is_turned h x) = omega (arith, stands_long x)
stands_long (is_both h x y) = omega (arith, stands_long x, stands_long y)
stands_long (is_on_day h d x) = omega (arith, stands_long x)

awaited_same : (s s' : List ℕ) → NodesSame s s' → (r : Row) (w : Waits) → Awaited s r w → Awaited s' r w
awaited_same s s' f r (starts d x) (a, b, c, e) = (a, b, stands_same f c, e)
awaited_same s s' f r (first_true e x) h = h
awaited_same s s' f r (by_choice d x) h = h

-- rows whose bytes and nodes are the same
pub rows_same : (s s' : List ℕ) → NodesSame s s' → (k : ℕ) (slots : List Slot) → ((m : ℕ) → m < k + length slots → row_at s' m ≡ row_at s m) → Rows s k slots → Rows s' k slots
unfolding Rows
rows_same s s' f k [] g h = tt
rows_same s s' f k (r ∷ rest) g (a, w, h) =
    let e : row_at s' k ≡ row_at s k = g k (omega arith) in
    (ap (λ q. q.above) e ∙ a, subst (λ q. Awaited s' q r.waits) (sym e) (awaited_same s s' f (row_at s k) r.waits w), rows_same s s' f (k + 1) rest (λ m lt. g m (omega arith)) h)

pub rows_more : (s : List ℕ) (k : ℕ) (slots : List Slot) (r : Slot) → Rows s k slots → (row_at s (k + length slots)).above ≡ r.entry → Awaited s (row_at s (k + length slots)) r.waits →
    Rows s k (slots ++ r ∷ [])
unfolding Rows
rows_more s k [] r h a w = let e : k + 0 ≡ k = omega arith in (subst (λ q. (row_at s q).above ≡ r.entry) e a, subst (λ q. Awaited s (row_at s q) r.waits) e w, tt)
rows_more s k (q ∷ rest) r (b, v, h) a w =
    let e : k + suc (length rest) ≡ k + 1 + length rest = omega arith in
    (b, v, rows_more s (k + 1) rest r h (subst (λ q. (row_at s q).above ≡ r.entry) e a) (subst (λ q. Awaited s (row_at s q) r.waits) e w))

-- entries whose bytes are the same
pub table_same : (s s' : List ℕ) (es : List Entry) → ((j : ℕ) → j ≤ length es → above_at s' j ≡ above_at s j) → Table s es → Table s' es
unfolding Table
table_same s s' [] f h = tt
table_same s s' (e ∷ older) f (c, o, h) =
    (subst (λ a. Coded a e.what e.over) (sym (f (suc (length older)) (omega arith))) c, o, table_same s s' older (λ j le. f j (omega arith)) h)

-- the first day of the rows, and one more
smaller_is : (a b : ℕ) → smaller a b ≡ min a b
smaller_is a b = grind (arith, nat_tests)

wake_min : (slots : List Slot) (r : Slot) → wake (slots ++ r ∷ []) ≡ min (row_wake r.waits) (wake slots)
unfolding wake
wake_min [] r = smaller_is (row_wake r.waits) 65536
wake_min (q ∷ rest) r =
    smaller_is (row_wake q.waits) (wake (rest ++ r ∷ []))
    ∙ ap (min (row_wake q.waits)) (wake_min rest r)
    ∙ omega (arith, smaller_is (row_wake q.waits) (wake rest))

-- one more row stands behind the others
pub row_stands : (st : State) (es : List Entry) (slots : List Slot) (r : Row) (q : Slot) → 12288 ≤ length st.bytes → length slots < 96 → length es ≤ 255 → r.day < 65536 → r.part ≤ 256 → r.end ≤ 256 →
    q.entry ≤ length es → r.above ≡ q.entry → row_wake q.waits ≡ r.day → Awaited st.bytes r q.waits → LeftStands st.bytes st.left es slots →
    LeftStands (with_row st r).bytes (with_row st r).left es (slots ++ q ∷ [])
unfolding with_row
row_stands st es slots r q long few entries d p e inside above wakes awaited h =
    let k = st.left.rows in
    let k-is : k ≡ length slots = h.rows_are in
    let s = st.bytes in
    let s' = put_row s k r in
    let apart : Apart s s' (16 * k) 16 = row_apart s k r (omega arith) in
    let nodes : NodesSame s s' = node_same apart long (inl (omega arith)) in
    let there : row_at s' k ≡ r = row_put s k r (omega arith) (omega arith) (omega arith) (omega arith) (omega arith) in
    let here : row_at s' (0 + length slots) ≡ r = ap (row_at s') (omega arith) ∙ there in
    rw (lt-ltb k 96 (omega arith))
    (record {
      rows_are = omega (arith, length-append slots (q ∷ []));
      used_are = h.used_are;
      wake_is = omega (arith, h.wake_is, wakes, wake_min slots q);
      table = table_same s s' es (λ j le. above_same apart long j (inr (omega arith))) h.table;
      inside = All-append (λ z. z.entry ≤ length es) slots (q ∷ []) h.inside (inside, tt);
      rows =
          rows_more s' 0 slots q (rows_same s s' nodes 0 slots (λ m lt. row_same apart m (omega arith) (inl (omega arith))) h.rows) (ap (λ z. z.above) here ∙ above)
          (subst (λ z. Awaited s' z q.waits) (sym here) (awaited_same s s' nodes r q.waits awaited));
    })

-- one more entry stands behind the others
pub turn_stands : (st : State) (es : List Entry) (slots : List Slot) (j : ℕ) → 12288 ≤ length st.bytes → length slots ≤ 96 → length es < 255 → j ≤ length es → LeftStands st.bytes st.left es slots →
    LeftStands (with_turn st j).bytes (with_turn st j).left (record { what = turn; over = j } ∷ es) slots
unfolding with_turn Table
turn_stands st es slots j long few entries inside h =
    let n = st.left.used + 1 in
    let n-is : n ≡ suc (length es) = omega (arith, h.used_are) in
    let s = st.bytes in
    let s' = put_turn s n j in
    let apart : Apart s s' (above_place n) 16 = turn_apart s n j (omega arith) long in
    let nodes : NodesSame s s' = node_same apart long (inr (omega arith)) in
    record {
      rows_are = h.rows_are;
      used_are = n-is;
      wake_is = h.wake_is;
      table = (
        ap (above_at s') (sym n-is) ∙ turn_put s n j (omega arith) (omega arith) long (omega arith),
        inside,
        table_same s s' es (λ i le. above_same apart long i (inl (omega arith))) h.table,
      );
      inside = All-weaker (λ z. z.entry ≤ length es) (λ z. z.entry ≤ suc (length es)) (λ z le. omega arith) slots h.inside;
      rows = rows_same s s' nodes 0 slots (λ m lt. row_same apart m (omega arith) (inl (omega arith))) h.rows;
    }
