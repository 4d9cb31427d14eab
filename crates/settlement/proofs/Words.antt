-- One deal more of the walk: it has its morning, and the others are as they were.
use Rattle.std.proofs.Common.{◌≡◌, ℕ, ◌+◌, ◌*◌, ◌<◌, ◌≤◌, eqb, ◌≢◌, List, length, get_or, take, ℤ, sum_by, sym, refl, ap, ◌∙◌, subst, ⊎_elim, arith}
use Rattle.std.proofs.lemmas.List.Sums.{sum_by_more, sum_by-take-le}
use Rattle.std.proofs.lemmas.Bool.{cases_eq, eq-eqb, ne_eqb}
use Rattle.deals.specs.Contract.{pick}
use Rattle.deals.specs.Residual.{Today}
use Rattle.deals.specs.House.{Held, held_step}
use Rattle.settlement.specs.Directory.{entry_of, part_of}
use Rattle.settlement.specs.Keeping.{Keeps, NettedOne, Netted}
use Rattle.settlement.specs.Walk.{number_in, times, Ready, Walked}

pub keeps_moved : (s s' : List ℕ) (c : ℕ) (h : Held) → part_of s' c ≡ part_of s c → entry_of s' c ≡ entry_of s c → Keeps s c h → Keeps s' c h
keeps_moved s s' c h part entry k =
    record { holder = ap (λ e. e.holder) entry ∙ k.holder; other = ap (λ e. e.other) entry ∙ k.other; left = rw (part, entry) k.left }

times_here : (c : ℕ) (ws : List ℕ) (i : ℕ) → i < length ws → number_in (get_or ws i 0) ≡ c → times c (take (i + 1) ws) ≡ times c (take i ws) + 1
unfolding times
times_here c ws i lt e = sum_by_more (λ w. pick (eqb (number_in w) c) 1 0) ws i 0 lt ∙ ap (λ b. sum_by (λ w. pick (eqb (number_in w) c) 1 0) (take i ws) + pick b 1 0) (eq-eqb (number_in (get_or ws i 0)) c e)

times_other : (c : ℕ) (ws : List ℕ) (i : ℕ) → i < length ws → number_in (get_or ws i 0) ≢ c → times c (take (i + 1) ws) ≡ times c (take i ws)
unfolding times
times_other c ws i lt ne =
    sum_by_more (λ w. pick (eqb (number_in w) c) 1 0) ws i 0 lt
    ∙ ap (λ b. sum_by (λ w. pick (eqb (number_in w) c) 1 0) (take i ws) + pick b 1 0) (ne_eqb (number_in (get_or ws i 0)) c ne)
    ∙ omega arith

times_front : (c : ℕ) (ws : List ℕ) (i : ℕ) → times c (take i ws) ≤ times c ws
unfolding times
times_front c ws i = sum_by-take-le (λ w. pick (eqb (number_in w) c) 1 0) ws i

pub walked_none : (n : ℕ) (see : ℕ → Today) (hs : ℕ → Held) (s ws : List ℕ) → Walked n see hs s ws 0 s
unfolding times
walked_none n see hs s ws = record { same_length = refl; done = λ c below some. absurd (omega arith); parts = λ c below none. refl; entries = λ c below none. refl }

-- the deal of the next word has its morning
module _ (t n cs : ℕ) (see : ℕ → Today) (hs : ℕ → Held) (s₀ ws : List ℕ) (room : ℕ) (ready : Ready t n cs see hs s₀ ws room) (i : ℕ) (lt : i < length ws) (s s' : List ℕ) (same : length s' ≡ length s)
    (gets gives gets' gives' : List ℤ) (netted : Netted t (number_in (get_or ws i 0)) s gets gives s' gets' gives') (walked : Walked n see hs s₀ ws i s) where
  -- it had none before
  not_yet : times (number_in (get_or ws i 0)) (take i ws) ≡ 0
  not_yet = omega (arith, times_here (number_in (get_or ws i 0)) ws i lt refl, times_front (number_in (get_or ws i 0)) ws (i + 1), ready.once (number_in (get_or ws i 0)))

  keeps_still : Keeps s (number_in (get_or ws i 0)) (hs (number_in (get_or ws i 0)))
  keeps_still =
      let c = number_in (get_or ws i 0) in
      keeps_moved s₀ s c (hs c) (walked.parts c (ready.deals i lt) not_yet) (walked.entries c (ready.deals i lt) not_yet) (ready.keeps c (ready.deals i lt))

  room_for : (q : ℕ) → q < n → 16384 * q + 16384 ≤ length s
  room_for q below = omega (arith, ready.long, walked.same_length)

  as_before : (q : ℕ) → q ≢ number_in (get_or ws i 0) → times q (take (i + 1) ws) ≡ times q (take i ws)
  as_before q ne = times_other q ws i lt (λ e. ne (sym e))

  pub net_one : NettedOne (see (number_in (get_or ws i 0))) (number_in (get_or ws i 0)) (hs (number_in (get_or ws i 0))) gets gives s' gets' gives'
  net_one =
      let c = number_in (get_or ws i 0) in
      let below = ready.deals i lt in
      netted.means (see c) (hs c) (ready.days c) (ready.roomy c below) (ready.apart c below) (room_for c below) keeps_still

  here_now : (q : ℕ) → q ≡ number_in (get_or ws i 0) → times q (take (i + 1) ws) ≢ 0
  here_now q e none = omega (arith, times_here q ws i lt (sym e))

  pub walked_more : Walked n see hs s₀ ws (i + 1) s'
  walked_more =
      let c = number_in (get_or ws i 0) in
      record {
        same_length = same ∙ walked.same_length;
        done = λ q below some.
            ⊎_elim
            (λ e. subst (λ z. Keeps s' z (held_step (see z) (hs z))) (sym e) net_one.keeps)
            (λ ne.
            keeps_moved s s' q (held_step (see q) (hs q)) (netted.others.parts q ne (room_for q below)) (netted.others.entries q ne (room_for q below))
            (walked.done q below (omega (arith, as_before q ne))))
            (cases_eq q c);
        parts = λ q below none.
            ⊎_elim (λ e. absurd (here_now q e none)) (λ ne. netted.others.parts q ne (room_for q below) ∙ walked.parts q below (sym (as_before q ne) ∙ none)) (cases_eq q c);
        entries = λ q below none.
            ⊎_elim (λ e. absurd (here_now q e none)) (λ ne. netted.others.entries q ne (room_for q below) ∙ walked.entries q below (sym (as_before q ne) ∙ none)) (cases_eq q c);
      }
