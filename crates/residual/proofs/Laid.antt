-- What stands in a deal's part after a contract's marks were written.
use Rattle.std.proofs.Common.{◌≡◌, ℕ, suc, ◌+◌, ◌-◌, ◌%◌, ◌<◌, ◌≤◌, min, Bool, true, false, ◌&&◌, ◌⊎◌, List, ◌∷◌, ◌++◌, length, get_or, drop, ℤ, pos, negsuc, neg_ℤ, sym, refl, ap, ◌∙◌, subst, inl, inr, ⊎_elim, arith, w64, SFits}
use Rattle.std.proofs.lemmas.List.{append_assoc, length-append, length-drop, get_or-drop, drop-drop, drop_at}
use Rattle.deals.specs.Contract.{Contract, nothing, pays, turned, both, choice, either, scaled, on_day, when, by_day}
use Rattle.deals.specs.Promise.{size, thin, marks, PartsFit}
use Rattle.deals.proofs.Place.{marks_some}
use Rattle.deals.proofs.Sizes.{size_is}
use Rattle.texts.proofs.Standing.{nodes_length}
use Rattle.texts.specs.Reading.{capped, capped_amount}
use Rattle.texts.specs.Nodes.{nodes_of}
use Rattle.texts.specs.declared.nodes.Node.{Node}
use Rattle.texts.specs.declared.nodes.Node.TheVariants.{Nothing, Pays, Turned, Both, On}
use Rattle.residual.specs.declared.cells.Node.TheVariants as node
use Rattle.residual.specs.Layout.{node_at, put_node}
use Rattle.residual.specs.Laying.{Laid, one_laid, by_mark, laid}
use Rattle.residual.specs.Deal.{Stands, is_nothing, is_pays, is_turned, is_both, is_on_day}
use Rattle.residual.proofs.Standing.{stands_long}
use Rattle.residual.proofs.Unroll.{laid_step}
use Rattle.residual.proofs.Writes.{Writable, nothing_is, pays_is, turned_is, both_is, on_day_is, node_apart, node_put, node_other}

-- the nodes of the part alone count
stands_within : {s : List ℕ} {i e : ℕ} {x : Contract} (s' : List ℕ) → ((j : ℕ) → i ≤ j → j < e → node_at s' j ≡ node_at s j) → Stands s i e x → Stands s' i e x
stands_within s' f (is_nothing {i = i} h) = is_nothing (f i (omega arith) (omega arith) ∙ h)
stands_within s' f (is_pays {i = i} h) = is_pays (f i (omega arith) (omega arith) ∙ h)
stands_within s' f (is_turned {i = i} h x) = is_turned (f i (omega arith) (omega (arith, stands_long x)) ∙ h) (stands_within s' (λ j l g. f j (omega arith) g) x)
stands_within s' f (is_both {i = i} h x y) =
    is_both (f i (omega arith) (omega (arith, stands_long x, stands_long y)) ∙ h) (stands_within s' (λ j l g. f j (omega arith) (omega (arith, stands_long y))) x)
    (stands_within s' (λ j l g. f j (omega (arith, stands_long x)) g) y)
stands_within s' f (is_on_day {i = i} h d x) = is_on_day (f i (omega arith) (omega (arith, stands_long x)) ∙ h) d (stands_within s' (λ j l g. f j (omega arith) g) x)

-- marks that begin with one
record Heads (ns : List Node) (i : ℕ) (v : Node) (tail : List Node) : Type 0 where
  within : i < length ns
  first : get_or ns i Nothing ≡ v
  then : drop (i + 1) ns ≡ tail

heads_at : (ns : List Node) (i : ℕ) (v : Node) (tail : List Node) → drop i ns ≡ v ∷ tail → Heads ns i v tail
heads_at ns i v tail e =
    let many : length (drop i ns) ≡ suc (length tail) = ap length e in
    record {
      within = omega (arith, many, length-drop i ns);
      first = ap (λ z. get_or ns z Nothing) (omega arith) ∙ sym (get_or-drop i ns 0 Nothing) ∙ ap (λ z. get_or z 0 Nothing) e;
      then = sym (drop-drop 1 i ns) ∙ ap (drop 1) e;
    }

-- numbers in bounds are held as they are
amount_held : (a : ℤ) → size a < 1099511627776 → capped_amount a ≡ a
amount_held (pos n) h = ap pos (omega (arith, h, size_is (pos n)))
amount_held (negsuc n) h = let e : min (suc n) 9223372036854775807 ≡ suc n = omega (arith, h, size_is (negsuc n)) in ap (λ z. neg_ℤ (pos z)) e

amount_fits : (a : ℤ) → size a < 1099511627776 → SFits w64 a
amount_fits (pos n) h = omega (arith, h, size_is (pos n))
amount_fits (negsuc n) h = omega (arith, h, size_is (negsuc n))

and_parts : (a b : Bool) → (a && b) ≡ true → (a ≡ true) × (b ≡ true)
and_parts true b e = (refl, e)
and_parts false b e = let z : true ≡ false = sym e in (e, grind arith)

-- a contract has as many nodes as marks
-- behind a contract's nodes
drop_past : (ns : List Node) (i : ℕ) (x : Contract) (rest : List Node) → drop i ns ≡ nodes_of x ++ rest → drop (i + marks x) ns ≡ rest
drop_past ns i x rest e = sym (drop-drop (marks x) i ns) ∙ ap (drop (marks x)) e ∙ drop_at (nodes_of x) rest (marks x) (nodes_length x)

heads_within : (y : Contract) (ns : List Node) (q : ℕ) (rest : List Node) → drop q ns ≡ nodes_of y ++ rest → q < length ns
heads_within y ns q rest e =
    let many : length (drop q ns) ≡ length (nodes_of y ++ rest) = ap length e in
    omega (arith, many, length-drop q ns, length-append (nodes_of y) rest, nodes_length y, marks_some y)

-- a contract was written from place i on: it stands there, and the other nodes are as they were
pub record Lays (x : Contract) (i : ℕ) (s : List ℕ) (l : Laid) : Type 0 where
  pub next : l.next ≡ i + marks x
  pub stands : Stands l.bytes i (i + marks x) x
  pub others : (j : ℕ) → (j < i) ⊎ (i + marks x ≤ j) → node_at l.bytes j ≡ node_at s j
  pub long : length l.bytes ≡ length s

-- what is asked of the marks
pub record Marked (x : Contract) (ns rest : List Node) (i n : ℕ) (s : List ℕ) : Type 0 where
  pub few : length ns ≤ 256
  pub long : 12288 ≤ length s
  pub here : drop i ns ≡ nodes_of x ++ rest
  pub deep : marks x ≤ n

-- one node alone
one_right : (x : Contract) (v : _) (i : ℕ) (s : List ℕ) → marks x ≡ 1 → i < 256 → 12288 ≤ length s → Writable v → (node_at (put_node s i v) i ≡ v → Stands (put_node s i v) i (i + 1) x) →
    Lays x i s (record { bytes = put_node s i v; next = i + 1 })
one_right x v i s one few long w f =
    let apart = node_apart s i v few long in
    record {
      next = ap (λ z. i + z) (sym one);
      stands = subst (λ z. Stands (put_node s i v) i (i + z) x) (sym one) (f (node_put s i v few long w));
      others = λ j out. node_other apart long j (⊎_elim (λ l e. omega arith) (λ l e. omega arith) out);
      long = apart.long;
    }

-- a node, and the part behind it
under_right : (w x : Contract) (v : _) (i : ℕ) (s : List ℕ) (l : Laid) → marks w ≡ 1 + marks x → i < 256 → 12288 ≤ length s → Writable v → Lays x (i + 1) (put_node s i v) l →
    (node_at l.bytes i ≡ v → Stands l.bytes (i + 1) (i + 1 + marks x) x → Stands l.bytes i (i + 1 + marks x) w) → Lays w i s l
under_right w x v i s l more few long ok under f =
    let apart = node_apart s i v few long in
    let end : i + 1 + marks x ≡ i + marks w = omega (arith, more) in
    record {
      next = under.next ∙ end;
      stands = subst (λ z. Stands l.bytes i z w) end (f (under.others i (inl (omega arith)) ∙ node_put s i v few long ok) under.stands);
      others = λ j out.
          under.others j (⊎_elim (λ q. inl (omega arith)) (λ q. inr (omega (arith, end))) out) ∙ node_other apart long j (⊎_elim (λ q e. omega arith) (λ q e. omega (arith, more)) out);
      long = under.long ∙ apart.long;
    }

pub laid_right : (x : Contract) (rs cs : ℕ) (ns rest : List Node) (i n : ℕ) (s : List ℕ) → thin x ≡ true → PartsFit rs cs x → cs ≤ 65536 → Marked x ns rest i n s → Lays x i s (laid n ns i s)
unfolding thin PartsFit marks by_mark one_laid
laid_right nothing rs cs ns rest i n s t fits few m =
    let h = heads_at ns i Nothing rest m.here in
    subst (Lays nothing i s) (sym (laid_step n ns i s (omega (arith, m.deep)) h.within ∙ ap (by_mark (λ i' s'. laid (n - 1) ns i' s') i s) h.first))
    (one_right nothing node.Nothing i s refl (omega (arith, h.within, m.few)) m.long nothing_is (λ e. is_nothing e))
laid_right (pays k a) rs cs ns rest i n s t fits few m =
    let h = heads_at ns i (Pays (capped k) (capped_amount a)) rest m.here in
    let currency : capped k % 65536 ≡ k = omega (arith, fits.0) in
    subst (Lays (pays k a) i s) (sym (laid_step n ns i s (omega (arith, m.deep)) h.within ∙ ap (by_mark (λ i' s'. laid (n - 1) ns i' s') i s) h.first))
    (rw (currency, amount_held a fits.1)
    (one_right (pays k a) (node.Pays k a) i s refl (omega (arith, h.within, m.few)) m.long (pays_is (omega (arith, fits.0)) (amount_fits a fits.1)) (λ e. is_pays e)))
laid_right (turned x) rs cs ns rest i n s t fits few m =
    let h = heads_at ns i Turned (nodes_of x ++ rest) m.here in
    let small : i < 256 = omega (arith, h.within, m.few) in
    subst (Lays (turned x) i s) (sym (laid_step n ns i s (omega (arith, m.deep)) h.within ∙ ap (by_mark (λ i' s'. laid (n - 1) ns i' s') i s) h.first))
    (under_right (turned x) x node.Turned i s (laid (n - 1) ns (i + 1) (put_node s i node.Turned)) refl small m.long turned_is
    (laid_right x rs cs ns rest (i + 1) (n - 1) (put_node s i node.Turned) t fits few
    (record { few = m.few; long = omega (arith, m.long, (node_apart s i node.Turned small m.long).long); here = h.then; deep = omega (arith, m.deep) }))
    (λ e q. is_turned e q))
laid_right (both x y) rs cs ns rest i n s t fits few m =
    let h = heads_at ns i Both (nodes_of x ++ (nodes_of y ++ rest)) (m.here ∙ ap (λ z. Both ∷ z) (append_assoc (nodes_of x) (nodes_of y) rest)) in
    let small : i < 256 = omega (arith, h.within, m.few) in
    let parts = and_parts (thin x) (thin y) t in
    let l₁ = laid (n - 1) ns (i + 1) s in
    let one : Lays x (i + 1) s l₁ =
    laid_right x rs cs ns (nodes_of y ++ rest) (i + 1) (n - 1) s parts.0 fits.0 few (record { few = m.few; long = m.long; here = h.then; deep = omega (arith, m.deep) }) in
    let q = i + 1 + marks x in
    let q-is : l₁.next ≡ q = one.next in
    let behind : drop q ns ≡ nodes_of y ++ rest = drop_past ns (i + 1) x (nodes_of y ++ rest) h.then in
    let in-y : q < length ns = heads_within y ns q rest behind in
    let s₁ = put_node l₁.bytes i (node.Both q) in
    let long₁ : 12288 ≤ length l₁.bytes = omega (arith, m.long, one.long) in
    let apart = node_apart l₁.bytes i (node.Both q) small long₁ in
    let l₂ = laid (n - 1) ns q s₁ in
    let two : Lays y q s₁ l₂ =
    laid_right y rs cs ns rest q (n - 1) s₁ parts.1 fits.1 few (record { few = m.few; long = omega (arith, apart.long); here = behind; deep = omega (arith, m.deep) }) in
    let end : q + marks y ≡ i + marks (both x y) = omega arith in
    let done : Lays (both x y) i s l₂ =
    record {
      next = two.next ∙ end;
      stands =
          subst (λ z. Stands l₂.bytes i z (both x y)) end
          (is_both (two.others i (inl (omega arith)) ∙ node_put l₁.bytes i (node.Both q) small long₁ (both_is (omega (arith, in-y, m.few))))
          (stands_within l₂.bytes (λ j l g. two.others j (inl g) ∙ node_other apart long₁ j (λ e. omega arith)) one.stands) two.stands);
      others = λ j out.
          two.others j (⊎_elim (λ l. inl (omega arith)) (λ l. inr (omega (arith, end))) out)
          ∙ node_other apart long₁ j (⊎_elim (λ l e. omega arith) (λ l e. omega arith) out)
          ∙ one.others j (⊎_elim (λ l. inl (omega arith)) (λ l. inr (omega arith)) out);
      long = two.long ∙ apart.long ∙ one.long;
    } in
    subst (Lays (both x y) i s)
    (sym (laid_step n ns i s (omega (arith, m.deep)) h.within ∙ ap (by_mark (λ i' s'. laid (n - 1) ns i' s') i s) h.first ∙ ap (λ z. laid (n - 1) ns z (put_node l₁.bytes i (node.Both z))) q-is))
    done
laid_right (choice x y) rs cs ns rest i n s t fits few m = let z : true ≡ false = sym t in grind arith
laid_right (either e x y) rs cs ns rest i n s t fits few m = let z : true ≡ false = sym t in grind arith
laid_right (scaled e x) rs cs ns rest i n s t fits few m = let z : true ≡ false = sym t in grind arith
laid_right (on_day d x) rs cs ns rest i n s t fits few m =
    let h = heads_at ns i (On (capped d)) (nodes_of x ++ rest) m.here in
    let small : i < 256 = omega (arith, h.within, m.few) in
    let day : capped d % 4294967296 ≡ d = omega (arith, fits.0) in
    subst (Lays (on_day d x) i s) (sym (laid_step n ns i s (omega (arith, m.deep)) h.within ∙ ap (by_mark (λ i' s'. laid (n - 1) ns i' s') i s) h.first))
    (rw day
    (under_right (on_day d x) x (node.OnDay d) i s (laid (n - 1) ns (i + 1) (put_node s i (node.OnDay d))) refl small m.long (on_day_is (omega (arith, fits.0)))
    (laid_right x rs cs ns rest (i + 1) (n - 1) (put_node s i (node.OnDay d)) t fits.1 few
    (record { few = m.few; long = omega (arith, m.long, (node_apart s i (node.OnDay d) small m.long).long); here = h.then; deep = omega (arith, m.deep) }))
    (λ e q. is_on_day e fits.0 q)))
laid_right (when e x) rs cs ns rest i n s t fits few m = let z : true ≡ false = sym t in grind arith
laid_right (by_day d x) rs cs ns rest i n s t fits few m = let z : true ≡ false = sym t in grind arith
