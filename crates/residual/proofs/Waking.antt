-- What the rows of a deal do on a day, by the model of what is left.
use Rattle.std.proofs.Common.{◌≡◌, ℕ, ◌+◌, ◌≤◌, List, [], ◌∷◌, ◌++◌, map, length, ℤ, refl, ap, ◌∙◌, subst, arith, w64}
use Rattle.std.specs.Int.{int_wrap}
use Rattle.std.specs.List.{range_with_len}
use Rattle.std.proofs.lemmas.Int.{ints}
use Rattle.std.proofs.ByRecursion.{All-weaker}
use Rattle.std.proofs.lemmas.List.{length-append}
use Rattle.std.proofs.lemmas.Bool.Decides.{nat_tests}
use Rattle.deals.specs.Contract.{Path}
use Rattle.deals.specs.Residual.{Waits, starts, first_true, by_choice, Today, come_to}
use Rattle.deals.specs.Shared.{Entry, Slot, kept_joined, kept_none, kept_waiting, shared_at_day, shared_begins, shared_wakes, shared_steps, SlotsIn}
use Rattle.deals.specs.Sleep.{wake}
use Rattle.residual.specs.declared.cells.Row.{Row}
use Rattle.residual.specs.declared.deal.Summary.{Summary}
use Rattle.residual.specs.Layout.{row_at, first_rows}
use Rattle.residual.specs.Steps.{State, state, with_row, begun, row_woken, woken}
use Rattle.residual.specs.Deal.{Awaited, Rows, LeftStands, Holds, Woken}
use Rattle.residual.proofs.Standing.{NodesSame, stands_same}
use Rattle.residual.proofs.Meaning.{StepsTo, Fits, steps_none, steps_both, grows, at_day_right, begun_right}

-- one row
row_right : (s : List ℕ) (n : Today) (r : Row) (w : Waits) (p : Path) (es : List Entry) (slots : List Slot) (st : State) → NodesSame s st.bytes → Awaited s r w →
    Fits st es slots r.above (shared_wakes n p w es r.above) → StepsTo st slots (shared_wakes n p w es r.above) (row_woken n.number r st)
unfolding shared_wakes row_woken with_row
row_right s n r (starts d x) p es slots st same (is, small, x-stands, end) fits =
    subst
    (λ z. Fits st es slots r.above (shared_at_day n.number z es (record { entry = r.above; way = p; waits = starts z x }) (shared_begins n p x es r.above)) →
    StepsTo st slots (shared_at_day n.number z es (record { entry = r.above; way = p; waits = starts z x }) (shared_begins n p x es r.above)) (row_woken n.number r st))
    is
    (λ inner.
    at_day_right n.number r.day es slots r.above p x r.part r.end st (begun 256 n.number r.part r.end r.above st) (shared_begins n p x es r.above) (omega arith) end
    (stands_same same x-stands) inner (λ f. begun_right x-stands n p es r.above slots st 256 same end (omega arith) f))
    fits
row_right s n r (first_true e x) p es slots st same h fits = absurd h
row_right s n r (by_choice d x) p es slots st same h fits = absurd h

-- entries only grow
wakes_grow : (s : List ℕ) (r : Row) (w : Waits) → Awaited s r w → (n : Today) (p : Path) (es : List Entry) (j : ℕ) → length es ≤ length (shared_wakes n p w es j).entries
unfolding shared_wakes shared_at_day kept_waiting kept_none
wakes_grow s r (starts d x) (is, small, x-stands, end) n p es j =
    let under = grows x-stands n p es j in grind (arith, nat_tests)
wakes_grow s r (first_true e x) h n p es j = absurd h
wakes_grow s r (by_choice d x) h n p es j = absurd h

steps_grow : (s : List ℕ) (k : ℕ) (rest : List Slot) → Rows s k rest → (n : Today) (es : List Entry) → length es ≤ length (shared_steps n rest es).entries
unfolding Rows shared_steps kept_none kept_joined
steps_grow s k [] h n es = omega arith
steps_grow s k (q ∷ rest) (a, w, h) n es =
    let first = wakes_grow s (row_at s k) q.waits w n q.way es q.entry in
    let then = steps_grow s (k + 1) rest h n (shared_wakes n q.way q.waits es q.entry).entries in omega (arith, first, then)

-- all rows, one after the other
pub woken_right : (rest : List Slot) (s : List ℕ) (k : ℕ) (n : Today) (es : List Entry) (done : List Slot) (st : State) → NodesSame s st.bytes → Rows s k rest → 12288 ≤ length st.bytes → SlotsIn es rest →
    length done + length (shared_steps n rest es).slots ≤ 96 → length (shared_steps n rest es).entries ≤ 255 → LeftStands st.bytes st.left es done →
    StepsTo st done (shared_steps n rest es) (woken n.number (map (row_at s) (range_with_len k (length rest))) st)
unfolding Rows shared_steps woken kept_joined
woken_right [] s k n es done st same rows long inside few_rows few_entries h = steps_none st es done h
woken_right (q ∷ rest) s k n es done st same (above, w, rows) long (in-q, in_rest) few_rows few_entries h =
    let r = row_at s k in
    let a = shared_wakes n q.way q.waits es q.entry in
    let b = shared_steps n rest a.entries in
    let st₁ = row_woken n.number r st in
    let few : length done + (length a.slots + length b.slots) ≤ 96 = omega (arith, few_rows, length-append a.slots b.slots) in
    let grown : length es ≤ length a.entries = wakes_grow s r q.waits w n q.way es q.entry in
    let first : StepsTo st done a st₁ =
    subst (λ j. Fits st es done j (shared_wakes n q.way q.waits es j) → StepsTo st done (shared_wakes n q.way q.waits es j) (row_woken n.number r st)) above
    (row_right s n r q.waits q.way es done st same w)
    (record { long = long; inside = in-q; few_rows = omega arith; few_entries = omega (arith, few_entries, steps_grow s (k + 1) rest rows n a.entries); stand = h }) in
    steps_both st st₁ (woken n.number (map (row_at s) (range_with_len (k + 1) (length rest))) st₁) done a b first
    (woken_right rest s (k + 1) n a.entries (done ++ a.slots) st₁ (λ i. first.nodes i ∙ same i) rows (omega (arith, first.long))
    (All-weaker (λ z. z.entry ≤ length es) (λ z. z.entry ≤ length a.entries) (λ z le. omega arith) rest in_rest) (omega (arith, length-append done a.slots)) few_entries first.stand)

-- a deal's rows before any has been looked at
abbrev pub fresh : List ℕ → Summary → List ℤ → State
fresh s k due = state s (record { wake = 65536; rows = 0; used = k.used }) due

-- a deal was woken, row by row
pub deal_woken : (s : List ℕ) (k : Summary) (n : Today) (es : List Entry) (slots : List Slot) (due : List ℤ) → 12288 ≤ length s → Holds s k es slots →
    length (shared_steps n slots es).slots ≤ 96 → length (shared_steps n slots es).entries ≤ 255 → (st' : State) → st' ≡ woken n.number (first_rows s (length slots)) (fresh s k due) → Woken n es slots st'.left st'.bytes due st'.due
unfolding woken shared_steps kept_none wake come_to Rows
deal_woken s k n es [] due long h few_rows few_entries st' is =
    rw is
    (record {
      holds = record { rows_are = refl; wake_is = refl; few = omega arith; stands = λ lt. absurd (omega arith) };
      paid = λ q lt. ap (int_wrap w64) (omega (arith, ints));
    })
deal_woken s k n es (q ∷ rest) due long h few_rows few_entries st' is =
    let stands = h.stands (omega arith) in
    let now : LeftStands s (record { wake = 65536; rows = 0; used = k.used }) es [] = record { rows_are = refl; used_are = stands.used_are; wake_is = refl; table = stands.table; inside = tt; rows = tt } in
    let done : StepsTo (fresh s k due) [] (shared_steps n (q ∷ rest) es) (woken n.number (first_rows s (length (q ∷ rest))) (fresh s k due)) =
    woken_right (q ∷ rest) s 0 n es [] (fresh s k due) (λ i. refl) stands.rows long stands.inside (omega arith) few_entries now in
    rw is (record { holds = record { rows_are = done.stand.rows_are; wake_is = done.stand.wake_is; few = few_rows; stands = λ lt. done.stand }; paid = done.paid })
