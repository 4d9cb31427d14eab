-- The numbers of parts of a text, put together, and what is noted of them. Assumes nothing.
use Rattle.std.proofs.Common.{◌≡◌, ℕ, ◌+◌, ◌≤◌, List, [], ◌∷◌, ◌++◌, length, codes, sym, refl, ap, ◌∙◌, subst, inl, inr, append_assoc, arith, length-append}
use Rattle.std.specs.List.{between}
use Rattle.std.proofs.lemmas.List.{append-nil}
use Rattle.std.proofs.lemmas.List.Edits.{length-between}
use Rattle.deals.specs.Contract.{Figure, rate}
use Rattle.texts.specs.Text.{Language, exactly, Number}
use Rattle.texts.specs.Reading.{Any, Word, Took}
use Rattle.texts.specs.Figures.{Operator, add, subtract, multiply, compare, operator_byte, applied}
use Rattle.texts.specs.Openings.{DayColon}
use Rattle.texts.specs.Bounds.{Numeral, Numbered, shifted, plain, numeral, ◌next◌, FigureNumerals}
use Rattle.texts.specs.Ranges.{Counts, Noted, EndedNumerals, RateEndingNumerals}
use Rattle.texts.specs.declared.ranges.Ranges.{Ranges}
use Rattle.texts.proofs.Parts.{between_then}

pub shifted_add : (a b : ℕ) (ns : List Numeral) → shifted a (shifted b ns) ≡ shifted (a + b) ns
shifted_add a b [] = refl
shifted_add a b (n ∷ ns) =
    let same : a + (b + n.place) ≡ a + b + n.place = omega arith in
    λ i. record { place = same i; limit = n.limit; value = n.value } ∷ shifted_add a b ns i

pub shifted_append : (a : ℕ) (ls ms : List Numeral) → shifted a (ls ++ ms) ≡ shifted a ls ++ shifted a ms
shifted_append a [] ms = refl
shifted_append a (n ∷ ls) ms = ap (λ z. record { place = a + n.place; limit = n.limit; value = n.value } ∷ z) (shifted_append a ls ms)

-- three parts, in either order of brackets
regroup : (a c : List ℕ) (ls js hs : List Numeral) →
    (ls ++ shifted (length a) js) ++ shifted (length (a ++ c)) hs ≡ ls ++ shifted (length a) (js ++ shifted (length c) hs)
regroup a c ls js hs =
    append_assoc ls (shifted (length a) js) (shifted (length (a ++ c)) hs)
    ∙ ap (λ z. ls ++ z)
    (ap (λ z. shifted (length a) js ++ z) (ap (λ n. shifted n hs) (length-append a c) ∙ sym (shifted_add (length a) (length c) hs))
    ∙ sym (shifted_append (length a) js (shifted (length c) hs)))

pub next_left : {P Q R : Numbered} (w : List ℕ) (ns : List Numeral) → (P next Q next R) w ns → ((P next Q) next R) w ns
next_left w ns (a, b, ls, ms, p, (c, d, js, hs, q, r, e, f), g, h) = (
  a ++ c,
  d,
  ls ++ shifted (length a) js,
  hs,
  (a, c, ls, js, p, q, refl, refl),
  r,
  append_assoc a c d ∙ ap (λ z. a ++ z) e ∙ g,
  regroup a c ls js hs ∙ ap (λ z. ls ++ shifted (length a) z) f ∙ h,
)

pub next_right : {P Q R : Numbered} (w : List ℕ) (ns : List Numeral) → ((P next Q) next R) w ns → (P next Q next R) w ns
next_right w ns (a, b, ls, ms, (c, d, js, hs, p, q, e, f), r, g, h) = (
  c,
  d ++ b,
  js,
  hs ++ shifted (length d) ms,
  p,
  (d, b, hs, ms, q, r, refl, refl),
  sym (append_assoc c d b) ∙ ap (λ z. z ++ b) e ∙ g,
  sym (regroup c d js hs ms) ∙ ap (λ z. z ++ shifted (length (c ++ d)) ms) f ∙ ap (λ z. ls ++ shifted (length z) ms) e ∙ h,
)

pub next_map : {P Q P' Q' : Numbered} → ((w : List ℕ) (ns : List Numeral) → P w ns → P' w ns) → ((w : List ℕ) (ns : List Numeral) → Q w ns → Q' w ns) →
    (w : List ℕ) (ns : List Numeral) → (P next Q) w ns → (P' next Q') w ns
next_map f g w ns (a, b, ls, ms, p, q, e, h) = (a, b, ls, ms, f a ls p, g b ms q, e, h)

-- the first byte of a word and the others
pub next_glue : (c : ℕ) (s : List ℕ) (R : Numbered) (w : List ℕ) (ns : List Numeral) →
    (plain (Word (c ∷ []) tt) next plain (Word s tt) next R) w ns → (plain (Word (c ∷ s) tt) next R) w ns
next_glue c s R w ns (a, b, ls, ms, (p, o), (d, v, js, hs, (q, z), r, f, g), e, h) =
    let one : length (c ∷ s) ≡ length a + length d = let x = ap length p in let y = ap length q in omega arith in (
      c ∷ s,
      v,
      [],
      hs,
      (refl, refl),
      r,
      ap (λ z. c ∷ (z ++ v)) (sym q) ∙ ap (λ z. c ∷ z) f ∙ ap (λ z. z ++ b) (sym p) ∙ e,
      ap (λ n. shifted n hs) one ∙ sym (shifted_add (length a) (length d) hs) ∙ ap (λ l. shifted (length a) (l ++ shifted (length d) hs)) (sym z)
          ∙ ap (λ m. shifted (length a) m) g ∙ ap (λ l. l ++ shifted (length a) ms) (sym o) ∙ h,
    )

-- the byte that ends a figure, taken to what follows
pub next_end : (E R : Numbered) (c : ℕ) (s w : List ℕ) (ns : List Numeral) →
    ((E next plain (Word (c ∷ []) tt)) next plain (Word s tt) next R) w ns → (E next plain (Word (c ∷ s) tt) next R) w ns
next_end E R c s w ns h = next_map (λ _ _ p. p) (next_glue c s R) w ns (next_right w ns h)

-- two figures in brackets
pub next_spelt : (P Q : Numbered) (open' s : List ℕ) (c end : ℕ) (w : List ℕ) (ns : List Numeral) →
    (plain (Word open' tt) next (P next plain (Word (c ∷ []) tt)) next plain (Word s tt) next (Q next plain (Word (41 ∷ []) tt)) next plain (Word (end ∷ []) tt)) w ns →
    ((plain (Word open' tt) next P next plain (Word (c ∷ s) tt) next Q next plain (Word (41 ∷ []) tt)) next plain (Word (end ∷ []) tt)) w ns
next_spelt P Q open' s c end w ns d =
    next_left w ns
    (next_map (λ _ _ p. p)
    (λ v ms h. next_left v ms
    (next_map (λ _ _ p. p)
    (λ u ls g. next_left u ls (next_glue c s ((Q next plain (Word (41 ∷ []) tt)) next plain (Word (end ∷ []) tt)) u ls g)) v ms (next_right v ms h))) w ns d)

pub bracket_numerals : (o : Operator) (e g : Figure) (end rs cs : ℕ) (w : List ℕ) (ns : List Numeral) →
    (plain (Word (codes "(") tt) next EndedNumerals 32 e rs cs next plain (Word (operator_byte o ∷ []) tt) next plain (Word (32 ∷ []) tt) next EndedNumerals 41 g rs cs next plain (Word (end ∷ []) tt)) w ns →
    EndedNumerals end (applied o e g) rs cs w ns
bracket_numerals o e g end rs cs w ns d = by o (spelt (operator_byte o) d)
  where
    spelt : (b : ℕ) →
        (plain (Word (codes "(") tt) next EndedNumerals 32 e rs cs next plain (Word (b ∷ []) tt) next plain (Word (32 ∷ []) tt) next EndedNumerals 41 g rs cs next plain (Word (end ∷ []) tt)) w ns →
        ((plain (Word (codes "(") tt) next FigureNumerals rs e next plain (Word (32 ∷ b ∷ 32 ∷ []) tt) next FigureNumerals rs g next plain (Word (41 ∷ []) tt)) next plain (Word (end ∷ []) tt)) w ns
    spelt b h =
        next_spelt (FigureNumerals rs e) (FigureNumerals rs g) (codes "(") (b ∷ 32 ∷ []) 32 end w ns
        (next_map (λ _ _ p. p)
        (λ v ms q. next_map (λ _ _ p. p) (λ u ls r. next_glue b (32 ∷ []) (EndedNumerals 41 g rs cs next plain (Word (end ∷ []) tt)) u ls r) v ms q) w ns h)

    by : (o : Operator) →
        ((plain (Word (codes "(") tt) next FigureNumerals rs e next plain (Word (32 ∷ operator_byte o ∷ 32 ∷ []) tt) next FigureNumerals rs g next plain (Word (41 ∷ []) tt)) next plain (Word (end ∷ []) tt)) w ns →
        EndedNumerals end (applied o e g) rs cs w ns
    by add h = h
    by subtract h = h
    by multiply h = h
    by compare h = h

pub rate_numerals : (k n end rs cs : ℕ) (w : List ℕ) (ns : List Numeral) →
    (plain (Word (codes "rate ") tt) next numeral rs k next RateEndingNumerals end n rs cs) w ns → EndedNumerals end (rate k n) rs cs w ns
rate_numerals k n end rs cs w ns (a, b, ls, ms, h, (v, r, js, hs, m, inl t, s, o), q, z) =
    let d = next_left {P = plain (Word (codes "rate ") tt)} {Q = numeral rs k next plain (Word (32 ∷ []) tt) next numeral 4097 n} {R = plain (Word (end ∷ []) tt)} w ns (
      a,
      b,
      ls,
      ms,
      h,
      next_left {P = numeral rs k} {Q = plain (Word (32 ∷ []) tt) next numeral 4097 n} {R = plain (Word (end ∷ []) tt)} b ms
          (v, r, js, hs, m, next_left {P = plain (Word (32 ∷ []) tt)} {Q = numeral 4097 n} {R = plain (Word (end ∷ []) tt)} r hs t, s, o),
      q,
      z,
    ) in
    (d.0, d.1, d.2, d.3, inl d.4, d.5, d.6, d.7)
rate_numerals k n end rs cs w ns (a, b, ls, ms, h, (v, r, js, hs, m, inr t, s, o), q, z) =
    let d = next_left {P = plain (Word (codes "rate ") tt)} {Q = numeral rs k} {R = plain (Word (end ∷ []) tt)} w ns (a, b, ls, ms, h, (v, r, js, hs, m, t.1, s, o), q, z) in
    (d.0, d.1, d.2, d.3, inr (t.0, d.4), d.5, d.6, d.7)

-- what is noted of one part and then of another
pub noted_then : {A B C : Ranges} {P Q : ℕ → ℕ → Numbered} {text : List ℕ} {a b c : ℕ} → Noted A B P text a b → Noted B C Q text b c → Noted A C (λ rs cs. P rs cs next Q rs cs) text a c
noted_then {C = C} {text = text} {a = a} {b = b} {c = c} p q = record {
  forward = omega (arith, p.forward, q.forward);
  within = q.within;
  notes = λ rs cs ks h.
      let f = p.notes rs cs ks h in
      let g = q.notes rs cs (ks ++ shifted a f.0) f.2 in
      let long = length (between a b text) in
      let here : a + long ≡ b = let l = length-between text a b p.within in let le = p.forward in omega arith in
      let behind : shifted b g.0 ≡ shifted a (shifted long g.0) = ap (λ n. shifted n g.0) (sym here) ∙ sym (shifted_add a long g.0) in (
        f.0 ++ shifted long g.0,
        (between a b text, between b c text, f.0, g.0, f.1, g.1, between_then text a b c p.forward q.forward, refl),
        subst (λ z. Counts C rs cs z)
            (append_assoc ks (shifted a f.0) (shifted b g.0) ∙ ap (λ z. ks ++ z) (ap (λ z. shifted a f.0 ++ z) behind ∙ sym (shifted_append a f.0 (shifted long g.0)))) g.2,
      );
}

pub noted_map : {A B : Ranges} {P Q : ℕ → ℕ → Numbered} {text : List ℕ} {a b : ℕ} → ((rs cs : ℕ) (w : List ℕ) (ns : List Numeral) → P rs cs w ns → Q rs cs w ns) →
    Noted A B P text a b → Noted A B Q text a b
noted_map {text = text} {a = a} {b = b} f p = record {
  forward = p.forward;
  within = p.within;
  notes = λ rs cs ks h. let g = p.notes rs cs ks h in (g.0, f rs cs (between a b text) g.0 g.1, g.2);
}

-- a part with no numbers that have a limit
pub noted_plain : {A : Ranges} {L : Language} {text : List ℕ} {a b : ℕ} → a ≤ b → b ≤ length text → L (between a b text) → Noted A A (λ _ _. plain L) text a b
noted_plain {A = A} h k l = record { forward = h; within = k; notes = λ rs cs ks n. ([], (l, refl), subst (λ z. Counts A rs cs z) (sym (append-nil ks)) n) }

pub noted_took : {A : Ranges} {X : Type 0} {F : Language} {L : X → Language} {text : List ℕ} {a b : ℕ} {x : X} → Took F L text a b x → Noted A A (λ _ _. plain (L x)) text a b
noted_took t = noted_plain t.forward t.within t.taken.word

-- one number is noted
abbrev NotesOne : Ranges → Ranges → ℕ → (ℕ → ℕ → ℕ) → ℕ → Type 0
NotesOne A B a limit n = (rs cs : ℕ) (ks : List Numeral) → Counts A rs cs ks → Counts B rs cs (ks ++ record { place = a; limit = limit rs cs; value = n } ∷ [])

here : (A B : Ranges) (a n : ℕ) (limit : ℕ → ℕ → ℕ) → NotesOne A B a limit n → (rs cs : ℕ) (ks : List Numeral) → Counts A rs cs ks →
    Counts B rs cs (ks ++ shifted a (record { place = 0; limit = limit rs cs; value = n } ∷ []))
here A B a n limit noted rs cs ks h =
    let same : a ≡ a + 0 = omega arith in
    subst (λ p. Counts B rs cs (ks ++ record { place = p; limit = limit rs cs; value = n } ∷ [])) same (noted rs cs ks h)

-- one number, and a day with what stands behind it
module _ {A B : Ranges} {text : List ℕ} {a b n : ℕ} (limit : ℕ → ℕ → ℕ) where
  pub noted_number : {F : Language} → NotesOne A B a limit n → Took F Number text a b n → Noted A B (λ rs cs. numeral (limit rs cs) n) text a b
  noted_number noted t = record {
    forward = t.forward;
    within = t.within;
    notes = λ rs cs ks h. (record { place = 0; limit = limit rs cs; value = n } ∷ [], (t.taken.word, refl), here A B a n limit noted rs cs ks h);
  }

  pub noted_day : NotesOne A B a limit n → Took Any DayColon text a b n → Noted A B (λ rs cs. numeral (limit rs cs) n next plain (exactly ": ")) text a b
  noted_day noted t =
      let d = t.taken.word in
      record {
        forward = t.forward;
        within = t.within;
        notes = λ rs cs ks h. (
          record { place = 0; limit = limit rs cs; value = n } ∷ [],
          (d.0, d.1, record { place = 0; limit = limit rs cs; value = n } ∷ [], [], (d.2, refl), (d.3, refl), d.4, refl),
          here A B a n limit noted rs cs ks h,
        );
      }
