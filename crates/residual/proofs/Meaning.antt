-- What a part does that begins, by the model of what is left.
use Rattle.std.proofs.Common.{◌≡◌, ℕ, suc, ◌+◌, ◌-◌, ◌<◌, ◌≤◌, min, max, eqb, ltb, List, [], ◌∷◌, ◌++◌, length, get_or, pos, ◌+ℤ◌, sym, refl, ap, ◌∙◌, subst, inl, inr, ⊎_elim, arith, w64}
use Rattle.std.specs.Int.{int_wrap}
use Rattle.std.proofs.lemmas.List.{append-nil, append_assoc, length-append}
use Rattle.std.proofs.lemmas.Int.{ints, int_wrap-add_same}
use Rattle.std.proofs.lemmas.Bool.{lt-ltb, le-ltb, eq-eqb, ne_eqb, cases_lt, cases_eq}
use Rattle.std.proofs.lemmas.Bool.Decides.{nat_tests}
use Rattle.deals.specs.Contract.{Contract, Path, pick}
use Rattle.deals.specs.Residual.{turn, through, starts, Due, Today, come_to}
use Rattle.deals.specs.Shared.{Entry, chain, Slot, Kept, kept_none, kept_waiting, kept_joined, shared_at_day, shared_begins}
use Rattle.deals.specs.Sleep.{row_wake}
use Rattle.residual.specs.declared.cells.Row.{Row}
use Rattle.residual.specs.declared.cells.Node.{Node}
use Rattle.residual.specs.declared.cells.Node.TheVariants as node
use Rattle.residual.specs.Layout.{node_at}
use Rattle.residual.specs.Steps.{State, with_due, seen_through, with_row, with_turn, by_node, begun}
use Rattle.residual.specs.Deal.{Stands, is_nothing, is_pays, is_turned, is_both, is_on_day, LeftStands}
use Rattle.residual.proofs.Unroll.{begun_step}
use Rattle.residual.proofs.Writes.{row_apart, turn_apart, node_same}
use Rattle.residual.proofs.Standing.{NodesSame, stands_same, stands_long, row_stands, turn_stands}
use Rattle.residual.proofs.Dues.{through_right, length_due, due_more}

-- a step of a deal that had some rows, by what the model gives for it
pub record StepsTo (st : State) (slots : List Slot) (k : Kept) (st' : State) : Type 0 where
  pub stand : LeftStands st'.bytes st'.left k.entries (slots ++ k.slots)
  pub nodes : NodesSame st.bytes st'.bytes
  pub long : length st'.bytes ≡ length st.bytes
  pub due_long : length st'.due ≡ length st.due
  pub paid : (q : ℕ) → q < length st.due → int_wrap w64 (get_or st'.due q (pos 0)) ≡ int_wrap w64 (get_or st.due q (pos 0) +ℤ come_to q k.now)

-- nothing comes of it
pub steps_none : (st : State) (es : List Entry) (slots : List Slot) → LeftStands st.bytes st.left es slots → StepsTo st slots (kept_none es) st
unfolding kept_none come_to
steps_none st es slots h =
    record {
      stand = subst (λ z. LeftStands st.bytes st.left es z) (sym (append-nil slots)) h;
      nodes = λ i. refl;
      long = refl;
      due_long = refl;
      paid = λ q lt. ap (int_wrap w64) (omega (arith, ints));
    }

-- one step and then another
come_to_both : (q : ℕ) (a b : List Due) → come_to q (a ++ b) ≡ come_to q a +ℤ come_to q b
unfolding come_to
come_to_both q [] b = omega (arith, ints)
come_to_both q (d ∷ rest) b = ap (λ z. pick (eqb d.currency q) d.amount (pos 0) +ℤ z) (come_to_both q rest b) ∙ omega (arith, ints)

pub steps_both : (st st' st'' : State) (slots : List Slot) (k l : Kept) → StepsTo st slots k st' → StepsTo st' (slots ++ k.slots) l st'' → StepsTo st slots (kept_joined k l) st''
unfolding kept_joined
steps_both st st' st'' slots k l one other =
    record {
      stand = subst (λ z. LeftStands st''.bytes st''.left l.entries z) (append_assoc slots k.slots l.slots) other.stand;
      nodes = λ i. other.nodes i ∙ one.nodes i;
      long = other.long ∙ one.long;
      due_long = other.due_long ∙ one.due_long;
      paid = λ q lt.
          other.paid q (omega (arith, one.due_long))
          ∙ int_wrap-add_same w64 (get_or st'.due q (pos 0)) (get_or st.due q (pos 0) +ℤ come_to q k.now) (come_to q l.now) (one.paid q lt)
          ∙ ap (int_wrap w64) (omega (arith, ints, come_to_both q k.now l.now));
    }

-- a row goes on waiting
pub steps_waits : (st : State) (es : List Entry) (slots : List Slot) (i e j d : ℕ) (p : Path) (x : Contract) → 12288 ≤ length st.bytes → length slots < 96 → length es ≤ 255 → d < 65536 → e ≤ 256 → j ≤ length es →
    Stands st.bytes i e x → LeftStands st.bytes st.left es slots →
    StepsTo st slots (kept_waiting es (record { entry = j; way = p; waits = starts d x })) (with_row st (record { day = d; part = i; end = e; above = j }))
unfolding kept_waiting with_row row_wake come_to
steps_waits st es slots i e j d p x long few entries day end inside x-stands h =
    let k-is : st.left.rows ≡ length slots = h.rows_are in
    let r : Row = record { day = d; part = i; end = e; above = j } in
    let apart = row_apart st.bytes st.left.rows r (omega arith) in
    let more = row_stands st es slots r (record { entry = j; way = p; waits = starts d x }) long few entries day (omega (arith, stands_long x-stands)) end inside refl refl (refl, day, x-stands, end) h in
    record {
      stand = more;
      nodes = rw (lt-ltb st.left.rows 96 (omega arith)) (node_same apart long (inl (omega arith)));
      long = rw (lt-ltb st.left.rows 96 (omega arith)) apart.long;
      due_long = rw (lt-ltb st.left.rows 96 (omega arith)) refl;
      paid = λ q lt. rw (lt-ltb st.left.rows 96 (omega arith)) (ap (int_wrap w64) (omega (arith, ints)));
    }

-- entries only grow
pub grows : {s : List ℕ} {i e : ℕ} {x : Contract} → Stands s i e x → (n : Today) (p : Path) (es : List Entry) (j : ℕ) → length es ≤ length (shared_begins n p x es j).entries
unfolding shared_begins kept_none kept_joined shared_at_day kept_waiting
grows (is_nothing h) n p es j = omega arith
grows (is_pays h) n p es j = omega arith
grows (is_turned h x) n p es j = omega (arith, grows x n (p ++ 0 ∷ []) (record { what = turn; over = j } ∷ es) (suc (length es)))
grows (is_both {x = x} h a b) n p es j = omega (arith, grows a n (p ++ 0 ∷ []) es j, grows b n (p ++ 1 ∷ []) (shared_begins n (p ++ 0 ∷ []) x es j).entries j)
grows (is_on_day {d = d} h l a) n p es j =
    let under = grows a n (p ++ 0 ∷ []) es j in grind (arith, nat_tests)

-- what is asked of a step: the part stands, the entry above it is there, and there is room for what comes
pub record Fits (st : State) (es : List Entry) (slots : List Slot) (j : ℕ) (k : Kept) : Type 0 where
  pub long : 12288 ≤ length st.bytes
  pub inside : j ≤ length es
  pub few_rows : length slots + length k.slots ≤ 96
  pub few_entries : length k.entries ≤ 255
  pub stand : LeftStands st.bytes st.left es slots

-- what starts on a day waits before it, begins on it, and is nothing once it is over
pub at_day_right : (t d : ℕ) (es : List Entry) (slots : List Slot) (j : ℕ) (p : Path) (x : Contract) (i e : ℕ) (st st' : State) (k : Kept) → d < 65536 → e ≤ 256 → Stands st.bytes i e x →
    Fits st es slots j (shared_at_day t d es (record { entry = j; way = p; waits = starts d x }) k) → (Fits st es slots j k → StepsTo st slots k st') →
    StepsTo st slots (shared_at_day t d es (record { entry = j; way = p; waits = starts d x }) k) (pick (ltb t d) (with_row st (record { day = d; part = i; end = e; above = j })) (pick (eqb t d) st' st))
unfolding shared_at_day kept_waiting
at_day_right t d es slots j p x i e st st' k small end stands fits begins =
    ⊎_elim
    (λ lt.
    let inner = simp (lt-ltb t d lt) at fits in
    rw (lt-ltb t d lt) (steps_waits st es slots i e j d p x inner.long (omega (arith, inner.few_rows)) (omega (arith, inner.few_entries)) small end inner.inside stands inner.stand))
    (λ le.
    ⊎_elim (λ is. let inner = simp (le-ltb t d le, eq-eqb t d is) at fits in rw (le-ltb t d le, eq-eqb t d is) (begins inner))
    (λ ne. let inner = simp (le-ltb t d le, ne_eqb t d ne) at fits in rw (le-ltb t d le, ne_eqb t d ne) (steps_none st es slots inner.stand)) (cases_eq t d))
    (cases_lt t d)

step_is : (m t i e j : ℕ) (st st' : State) (v : Node) → i < e → 0 < m → node_at st.bytes i ≡ v → by_node (λ i' e' j' st''. begun (m - 1) t i' e' j' st'') t i e j st v ≡ st' → begun m t i e j st ≡ st'
step_is m t i e j st st' v lt some is does = begun_step m t i e j st some lt ∙ ap (by_node (λ i' e' j' st''. begun (m - 1) t i' e' j' st'') t i e j st) is ∙ does

-- a part that begins does what the model says of the contract that stands there
pub begun_right : {s : List ℕ} {i e : ℕ} {x : Contract} → Stands s i e x → (n : Today) (p : Path) (es : List Entry) (j : ℕ) (slots : List Slot) (st : State) (m : ℕ) → NodesSame s st.bytes → e ≤ 256 → e ≤ i + m →
    Fits st es slots j (shared_begins n p x es j) → StepsTo st slots (shared_begins n p x es j) (begun m n.number i e j st)
unfolding shared_begins by_node kept_joined come_to with_turn shared_at_day kept_waiting
begun_right {i = i} {e = e} (is_nothing h) n p es j slots st m same end deep fits =
    subst (StepsTo st slots (kept_none es)) (sym (step_is m n.number i e j st st node.Nothing (omega arith) (omega arith) (same i ∙ h) refl)) (steps_none st es slots fits.stand)
begun_right {i = i} {e = e} (is_pays {k = k} {a = a} h) n p es j slots st m same end deep fits =
    let amount = seen_through 256 st.bytes j a in
    let st' : State = record { bytes = st.bytes; left = st.left; due = with_due st.due k amount } in
    let now : Due = record { currency = k; amount = through (chain es j) a } in
    subst (StepsTo st slots (record { now = now ∷ []; entries = es; slots = [] })) (sym (step_is m n.number i e j st st' (node.Pays k a) (omega arith) (omega arith) (same i ∙ h) refl))
    (record {
      stand = subst (λ z. LeftStands st.bytes st.left es z) (sym (append-nil slots)) fits.stand;
      nodes = λ i. refl;
      long = refl;
      due_long = length_due st.due k amount;
      paid = λ q lt.
          due_more st.due k amount (through (chain es j) a) (through_right st.bytes es fits.stand.table 256 j fits.inside (omega (arith, fits.few_entries)) a) q lt
          ∙ ap (int_wrap w64) (omega (arith, ints));
    })
begun_right {i = i} {e = e} (is_turned {x = x} h under) n p es j slots st m same end deep fits =
    let more : List Entry = record { what = turn; over = j } ∷ es in
    let k = shared_begins n (p ++ 0 ∷ []) x more (suc (length es)) in
    let used : st.left.used + 1 ≡ suc (length es) = omega (arith, fits.stand.used_are) in
    let room : length es < 255 = omega (arith, fits.few_entries, grows under n (p ++ 0 ∷ []) more (suc (length es))) in
    let st₁ = with_turn st j in
    let apart = turn_apart st.bytes (st.left.used + 1) j (omega arith) fits.long in
    let nodes = node_same apart fits.long (inr (omega arith)) in
    let st' = begun (m - 1) n.number (i + 1) e (suc (length es)) st₁ in
    let done =
    begun_right under n (p ++ 0 ∷ []) more (suc (length es)) slots st₁ (m - 1) (λ l. nodes l ∙ same l) end (omega arith)
    (record {
      long = omega (arith, apart.long, fits.long);
      inside = omega arith;
      few_rows = fits.few_rows;
      few_entries = fits.few_entries;
      stand = turn_stands st es slots j fits.long (omega (arith, fits.few_rows)) room fits.inside fits.stand;
    }) in
    let steps : begun m n.number i e j st ≡ st' =
    step_is m n.number i e j st st' node.Turned (omega (arith, stands_long under)) (omega (arith, stands_long under)) (same i ∙ h)
    (rw (lt-ltb st.left.used 255 (omega arith)) (ap (λ z. begun (m - 1) n.number (i + 1) e z st₁) used)) in
    subst (StepsTo st slots k) (sym steps)
    (record {
      stand = done.stand;
      nodes = λ l. done.nodes l ∙ nodes l;
      long = done.long ∙ apart.long;
      due_long = done.due_long;
      paid = done.paid;
    })
begun_right {i = i} {e = e} (is_both {q = q} {x = x} {y = y} h one other) n p es j slots st m same end deep fits =
    let k = shared_begins n (p ++ 0 ∷ []) x es j in
    let l = shared_begins n (p ++ 1 ∷ []) y k.entries j in
    let few : length slots + (length k.slots + length l.slots) ≤ 96 = omega (arith, fits.few_rows, length-append k.slots l.slots) in
    let more : length es ≤ length k.entries = grows one n (p ++ 0 ∷ []) es j in
    let st₁ = begun (m - 1) n.number (i + 1) q j st in
    let first =
    begun_right one n (p ++ 0 ∷ []) es j slots st (m - 1) same (omega (arith, stands_long other)) (omega (arith, stands_long other))
    (record {
      long = fits.long;
      inside = fits.inside;
      few_rows = omega arith;
      few_entries = omega (arith, fits.few_entries, grows other n (p ++ 1 ∷ []) k.entries j);
      stand = fits.stand;
    }) in
    let second =
    begun_right other n (p ++ 1 ∷ []) k.entries j (slots ++ k.slots) st₁ (m - 1) (λ z. first.nodes z ∙ same z) end (omega (arith, stands_long one))
    (record {
      long = omega (arith, first.long, fits.long);
      inside = omega (arith, fits.inside);
      few_rows = omega (arith, length-append slots k.slots);
      few_entries = fits.few_entries;
      stand = first.stand;
    }) in
    let between : max (min q e) (i + 1) ≡ q = omega (arith, stands_long one, stands_long other) in
    subst (StepsTo st slots (kept_joined k l))
    (sym (step_is m n.number i e j st (begun (m - 1) n.number q e j st₁) (node.Both q) (omega (arith, stands_long one, stands_long other)) (omega (arith, stands_long one, stands_long other)) (same i ∙ h)
    (ap (λ z. begun (m - 1) n.number z e j (begun (m - 1) n.number (i + 1) z j st)) between)))
    (steps_both st st₁ (begun (m - 1) n.number q e j st₁) slots k l first second)
begun_right {i = i} {e = e} (is_on_day {d = d} {x = x} h small under) n p es j slots st m same end deep fits =
    let t = n.number in
    let longer = stands_long under in
    let k = shared_begins n (p ++ 0 ∷ []) x es j in
    let st' = begun (m - 1) t (i + 1) e j st in
    let slot : Slot = record { entry = j; way = p ++ 0 ∷ []; waits = starts d x } in
    let row : Row = record { day = d; part = i + 1; end = e; above = j } in
    let steps : begun m t i e j st ≡ pick (ltb t d) (with_row st row) (pick (eqb t d) st' st) = step_is m t i e j st _ (node.OnDay d) (omega arith) (omega arith) (same i ∙ h) refl in
    subst (StepsTo st slots (shared_at_day t d es slot k)) (sym steps)
    (at_day_right t d es slots j (p ++ 0 ∷ []) x (i + 1) e st st' k small end (stands_same same under) fits (λ inner. begun_right under n (p ++ 0 ∷ []) es j slots st (m - 1) same end (omega arith) inner))
