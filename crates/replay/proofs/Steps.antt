-- One step of each recursion, at a number that isn't 0.
use Rattle.std.proofs.Common.{◌≡◌, ℕ, zero, suc, ◌+◌, ◌-◌, ◌<◌, ◌≤◌, List, [], ℤ, pos, None, min, ap, ◌∙◌, refl, arith}
use Rattle.std.proofs.lemmas.Bool.{lt-ltb, le-ltb}
use Rattle.texts.specs.declared.nodes.Node.{Node}
use Rattle.texts.specs.declared.nodes.Node.TheVariants.{Nothing, Pays, Turned, Both, Choice, If, Of, On, When, By, Fixed, Rate, Day, Plus, Minus, Times, Max, Less}
use Rattle.replay.specs.Parts.{within, passed}
use Rattle.replay.specs.declared.dues.Due.{Due}
use Rattle.replay.specs.declared.flow.Part.{Part}
use Rattle.replay.specs.Figure.{figure_of, figure_at}
use Rattle.replay.specs.Flow.{Seen, goes_on, next_of, flow_of, flow_at}

pub pred_of : (n : ℕ) → suc n - 1 ≡ n
pred_of n = omega arith

-- nothing is to come, or no node is left
pub passed_none : (node : ℕ → Node) (n i : ℕ) → passed node n 0 i ≡ i
unfolding passed
passed_none node zero i = refl
passed_none node (suc n) i = refl

pub passed_step : (node : ℕ → Node) (n more i : ℕ) → 0 < n → passed node n (suc more) i ≡ passed node (n - 1) (more + within (node i)) (i + 1)
unfolding passed
passed_step node zero more i p = absurd (omega arith)
passed_step node (suc n) more i p = rw (pred_of n)

pub passed_more : (node : ℕ → Node) (n more i : ℕ) → 0 < n → 0 < more → passed node n more i ≡ passed node (n - 1) (more - 1 + within (node i)) (i + 1)
unfolding passed
passed_more node zero more i p q = absurd (omega arith)
passed_more node (suc n) zero i p q = absurd (omega arith)
passed_more node (suc n) (suc more) i p q = rw (pred_of n, pred_of more)

pub passed_end : (node : ℕ → Node) (n more i : ℕ) → n ≡ 0 → passed node n more i ≡ i
unfolding passed
passed_end node n more i e = rw e

-- where nothing stands each place ends one part
pub passed_nothing : (node : ℕ → Node) (n more i : ℕ) → ((j : ℕ) → i ≤ j → node j ≡ Nothing) → passed node n more i ≡ i + min more n
unfolding passed
passed_nothing node zero more i none = omega arith
passed_nothing node (suc n) zero i none = omega arith
passed_nothing node (suc n) (suc more) i none =
    let here : more + within (node i) ≡ more = ap (λ z. more + within z) (none i (omega arith)) ∙ omega arith in
    ap (λ z. passed node n z (i + 1)) here ∙ passed_nothing node n more (i + 1) (λ j le. none j (omega arith)) ∙ omega arith

module _ (rates : ℕ → ℕ → ℤ) (node : ℕ → Node) (t : ℕ) where
  pub figure_zero : (n i : ℕ) → n ≡ 0 → figure_at rates node t n i ≡ pos 0
  unfolding figure_at
  figure_zero n i e = rw e

  pub figure_past : (n i : ℕ) → 256 ≤ i → figure_at rates node t n i ≡ pos 0
  unfolding figure_at
  figure_past zero i h = refl
  figure_past (suc n) i h = rw (le-ltb i 256 h)

  pub figure_step : (n i : ℕ) → 0 < n → i < 256 → figure_at rates node t n i ≡ figure_of rates node t (figure_at rates node t (n - 1)) i (node i)
  unfolding figure_at
  figure_step zero i p h = absurd (omega arith)
  figure_step (suc n) i p h = rw (lt-ltb i 256 h, pred_of n)

  -- a node that is no figure's
  pub figure_none : (go : ℕ → ℤ) (i : ℕ) (o : Node) → ((a : ℤ) → o ≡ Fixed a → ⊥) → ((k n : ℕ) → o ≡ Rate k n → ⊥) → (o ≡ Day → ⊥) →
      (o ≡ Plus → ⊥) → (o ≡ Minus → ⊥) → (o ≡ Times → ⊥) → (o ≡ Max → ⊥) → (o ≡ Less → ⊥) → figure_of rates node t go i o ≡ pos 0
  unfolding figure_of
  figure_none go i Nothing f r y p m x l c = refl
  figure_none go i (Pays k a) f r y p m x l c = refl
  figure_none go i Turned f r y p m x l c = refl
  figure_none go i Both f r y p m x l c = refl
  figure_none go i Choice f r y p m x l c = refl
  figure_none go i If f r y p m x l c = refl
  figure_none go i Of f r y p m x l c = refl
  figure_none go i (On d) f r y p m x l c = refl
  figure_none go i When f r y p m x l c = refl
  figure_none go i (By d) f r y p m x l c = refl
  figure_none go i (Fixed a) f r y p m x l c = absurd (f a refl)
  figure_none go i (Rate k n) f r y p m x l c = absurd (r k n refl)
  figure_none go i Day f r y p m x l c = absurd (y refl)
  figure_none go i Plus f r y p m x l c = absurd (p refl)
  figure_none go i Minus f r y p m x l c = absurd (m refl)
  figure_none go i Times f r y p m x l c = absurd (x refl)
  figure_none go i Max f r y p m x l c = absurd (l refl)
  figure_none go i Less f r y p m x l c = absurd (c refl)

module _ (s : Seen) (u : ℕ) where
  pub flow_zero : (n : ℕ) (p : Part) → n ≡ 0 → flow_at s u n p ≡ []
  unfolding flow_at
  flow_zero n p e = rw e

  pub flow_past : (n : ℕ) (p : Part) → 256 ≤ p.at → flow_at s u n p ≡ []
  unfolding flow_at
  flow_past zero p h = refl
  flow_past (suc n) p h = rw (le-ltb p.at 256 h)

  pub flow_step : (n : ℕ) (p : Part) → 0 < n → p.at < 256 → flow_at s u n p ≡ flow_of s u (flow_at s u (n - 1)) p (s.node p.at)
  unfolding flow_at
  flow_step zero p e h = absurd (omega arith)
  flow_step (suc n) p e h = rw (lt-ltb p.at 256 h, pred_of n)

  -- no part goes on
  pub next_none : (p : Part) (q : Node) → (q ≡ Choice → ⊥) → (q ≡ If → ⊥) → ((d : ℕ) → q ≡ On d → ⊥) → (q ≡ When → ⊥) → ((d : ℕ) → q ≡ By d → ⊥) → next_of s p q ≡ None
  unfolding next_of
  next_none p Nothing c f o w b = refl
  next_none p (Pays k a) c f o w b = refl
  next_none p Turned c f o w b = refl
  next_none p Both c f o w b = refl
  next_none p Choice c f o w b = absurd (c refl)
  next_none p If c f o w b = absurd (f refl)
  next_none p Of c f o w b = refl
  next_none p (On d) c f o w b = absurd (o d refl)
  next_none p When c f o w b = absurd (w refl)
  next_none p (By d) c f o w b = absurd (b d refl)
  next_none p (Fixed a) c f o w b = refl
  next_none p (Rate k n) c f o w b = refl
  next_none p Day c f o w b = refl
  next_none p Plus c f o w b = refl
  next_none p Minus c f o w b = refl
  next_none p Times c f o w b = refl
  next_none p Max c f o w b = refl
  next_none p Less c f o w b = refl

  -- one part goes on, or none
  pub flow_next : (go : Part → List Due) (p : Part) (q : Node) → ((k : ℕ) (a : ℤ) → q ≡ Pays k a → ⊥) → (q ≡ Turned → ⊥) → (q ≡ Both → ⊥) → (q ≡ Of → ⊥) →
      flow_of s u go p q ≡ goes_on (next_of s p q) go
  unfolding flow_of next_of
  flow_next go p Nothing y v b o = refl
  flow_next go p (Pays k a) y v b o = absurd (y k a refl)
  flow_next go p Turned y v b o = absurd (v refl)
  flow_next go p Both y v b o = absurd (b refl)
  flow_next go p Choice y v b o = refl
  flow_next go p If y v b o = refl
  flow_next go p Of y v b o = absurd (o refl)
  flow_next go p (On d) y v b o = refl
  flow_next go p When y v b o = refl
  flow_next go p (By d) y v b o = refl
  flow_next go p (Fixed a) y v b o = refl
  flow_next go p (Rate k n) y v b o = refl
  flow_next go p Day y v b o = refl
  flow_next go p Plus y v b o = refl
  flow_next go p Minus y v b o = refl
  flow_next go p Times y v b o = refl
  flow_next go p Max y v b o = refl
  flow_next go p Less y v b o = refl
