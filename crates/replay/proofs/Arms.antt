-- What flows under a part, form by form.
use Rattle.std.proofs.Common.{◌≡◌, ℕ, ◌+◌, ◌-◌, ◌<◌, ◌≤◌, true, false, ◌≢◌, List, [], ◌∷◌, ◌++◌, map, ℤ, pos, Some, None, Option, sym, refl, ap, ◌∙◌}
use Rattle.std.proofs.lemmas.Bool.{false_from_ne_true, lt-ltb, le-ltb, eq-eqb, ne_eqb}
use Rattle.deals.specs.Contract.{is_zero}
use Rattle.deals.proofs.Lines.{zero_is}
use Rattle.texts.specs.declared.nodes.Node.{Node}
use Rattle.texts.specs.declared.nodes.Node.TheVariants.{Pays, Turned, Both, Of}
use Rattle.replay.specs.declared.dues.Due.{Due}
use Rattle.replay.specs.declared.dues.Above.TheVariants.{Turn, Scale}
use Rattle.replay.specs.declared.flow.Part.{Part}
use Rattle.replay.specs.Parts.{behind}
use Rattle.replay.specs.Figure.{figure_at}
use Rattle.replay.specs.Dues.{lift_due}
use Rattle.replay.specs.Flow.{Seen, inside, goes_on, next_of, flow_of, flow_at}
use Rattle.replay.proofs.Steps.{flow_step, flow_next}

pub zero_yes : (v : ℤ) → v ≡ pos 0 → is_zero v ≡ true
unfolding is_zero
zero_yes v e = rw e

pub zero_no : (v : ℤ) → (v ≡ pos 0 → ⊥) → is_zero v ≡ false
zero_no v h = false_from_ne_true (is_zero v) (λ e. h (zero_is v e))

pub none_goes : (o : Option Part) (go : Part → List Due) → ((p : Part) → o ≡ Some p → ⊥) → goes_on o go ≡ []
none_goes (Some p) go h = absurd (h p refl)
none_goes None go h = refl

module _ (s : Seen) (u n : ℕ) (p : Part) (q : Node) (some : 0 < n) (room : p.at < 256) (is : q ≡ s.node p.at) where
  abbrev go : Part → List Due
  go = flow_at s u (n - 1)

  abbrev all : List Due
  all = flow_at s u n p

  here : (r : Node) → q ≡ r → all ≡ flow_of s u go p r
  here r e = flow_step s u n p some room ∙ ap (flow_of s u go p) (sym is ∙ e)

  pub arm_pays : (k : ℕ) (a : ℤ) → q ≡ Pays k a → p.day ≡ u → p.day < s.known → all ≡ record { currency = k; amount = a } ∷ []
  unfolding flow_of
  arm_pays k a e t h = here (Pays k a) e ∙ rw (eq-eqb p.day u t, lt-ltb p.day s.known h)

  pub arm_pays_other : (k : ℕ) (a : ℤ) → q ≡ Pays k a → p.day ≢ u → all ≡ []
  unfolding flow_of
  arm_pays_other k a e t = here (Pays k a) e ∙ rw (ne_eqb p.day u t)

  pub arm_pays_late : (k : ℕ) (a : ℤ) → q ≡ Pays k a → p.day ≡ u → s.known ≤ p.day → all ≡ []
  unfolding flow_of
  arm_pays_late k a e t h = here (Pays k a) e ∙ rw (eq-eqb p.day u t, le-ltb p.day s.known h)

  pub arm_turned : (r : Part) → q ≡ Turned → r ≡ inside p (p.at + 1) p.day 0 → all ≡ map (lift_due Turn) (go r)
  unfolding flow_of
  arm_turned r e i = here Turned e ∙ ap (λ z. map (lift_due Turn) (go z)) (sym i)

  pub arm_both : (r r' : Part) (y : ℕ) → q ≡ Both → y ≡ behind s.node (p.at + 1) → r ≡ inside p (p.at + 1) p.day 0 → r' ≡ inside p y p.day 1 → all ≡ go r ++ go r'
  unfolding flow_of
  arm_both r r' y e b i j = here Both e ∙ sym (ap (λ z. go z ++ go r') i ∙ ap (λ z. go (inside p (p.at + 1) p.day 0) ++ go z) (j ∙ ap (λ z. inside p z p.day 1) b))

  abbrev worth : ℤ
  worth = figure_at s.rates s.node p.day 256 (p.at + 1)

  pub arm_of_late : q ≡ Of → s.known ≤ p.day → all ≡ []
  unfolding flow_of
  arm_of_late e h = here Of e ∙ rw (le-ltb p.day s.known h)

  pub arm_of : (r : Part) (x : ℕ) (v : ℤ) → q ≡ Of → p.day < s.known → v ≡ worth → x ≡ behind s.node (p.at + 1) →
      r ≡ inside p x p.day 0 → all ≡ map (lift_due (Scale v)) (go r)
  unfolding flow_of
  arm_of r x v e h t b i =
      here Of e ∙ rw (lt-ltb p.day s.known h) (ap (λ w. map (lift_due (Scale w)) (go (inside p (behind s.node (p.at + 1)) p.day 0))) (sym t)
      ∙ sym (ap (λ w. map (lift_due (Scale v)) (go w)) (i ∙ ap (λ w. inside p w p.day 0) b)))

  pub arm_next : (o : Option Part) → ((k : ℕ) (a : ℤ) → q ≡ Pays k a → ⊥) → (q ≡ Turned → ⊥) → (q ≡ Both → ⊥) → (q ≡ Of → ⊥) → o ≡ next_of s p q → all ≡ goes_on o go
  arm_next o y v b f e = here q refl ∙ flow_next s u go p q y v b f ∙ ap (λ z. goes_on z go) (sym e)
