-- The numbers of a text with limits: they stand within it, and say with the limits whether its contract is in bounds. Assumes nothing.
use Rattle.std.proofs.Common.{◌≡◌, ℕ, ◌+◌, ◌-◌, ◌<◌, ◌≤◌, ◌⊎◌, List, [], ◌∷◌, ◌++◌, length, take, Some, None, Option, sym, refl, ap, ◌∙◌, subst, inl, inr, arith, length-append, MatchOption}
use Rattle.deals.specs.Contract.{Figure, fixed, rate, day, plus, minus, times, most, less, Contract, nothing, pays, turned, both, choice, either, scaled, on_day, when, by_day}
use Rattle.deals.specs.Promise.{FigureFits, PartsFit, ContractFits}
use Rattle.texts.specs.Text.{Language, Text}
use Rattle.texts.specs.Ranges.{Counts, Noted}
use Rattle.texts.specs.declared.ranges.Ranges.{Ranges}
use Rattle.std.specs.List.{between}
use Rattle.std.proofs.lemmas.List.{take_all}
use Rattle.texts.specs.Bounds.{Numeral, Numbered, shifted, plain, numeral, ◌next◌, FigureNumerals, ContractNumerals, InRange, FirstOut, FigureWithin, PartsWithin, IsWithinLimits, FitsByText, TextTaken, TextRefused, out_of_range}

-- IN RANGE, part by part
in_left : (ls ms : List Numeral) → InRange (ls ++ ms) → InRange ls
unfolding InRange
in_left [] ms h = tt
in_left (l ∷ ls) ms h = (h.0, in_left ls ms h.1)

in_right : (ls ms : List Numeral) → InRange (ls ++ ms) → InRange ms
unfolding InRange
in_right [] ms h = h
in_right (l ∷ ls) ms h = in_right ls ms h.1

in_both : (ls ms : List Numeral) → InRange ls → InRange ms → InRange (ls ++ ms)
unfolding InRange
in_both [] ms h k = k
in_both (l ∷ ls) ms h k = (h.0, in_both ls ms h.1 k)

in_shifted : (a : ℕ) (ns : List Numeral) → InRange ns → InRange (shifted a ns)
unfolding InRange
in_shifted a [] h = tt
in_shifted a (n ∷ ns) h = (h.0, in_shifted a ns h.1)

in_unshifted : (a : ℕ) (ns : List Numeral) → InRange (shifted a ns) → InRange ns
unfolding InRange
in_unshifted a [] h = tt
in_unshifted a (n ∷ ns) h = (h.0, in_unshifted a ns h.1)

says_one : (limit n : ℕ) → InRange (record { place = 0; limit = limit; value = n } ∷ []) → n < limit
unfolding InRange
says_one limit n h = h.0

has_one : (limit n : ℕ) → n < limit → InRange (record { place = 0; limit = limit; value = n } ∷ [])
unfolding InRange
has_one limit n h = (h, tt)

-- what the numbers of bytes in this language say when they are in range, and what has them in range
pub record Says (P : Numbered) (X : Type 0) : Type 0 where
  pub so : (w : List ℕ) (ns : List Numeral) → P w ns → InRange ns → X

pub record Has (P : Numbered) (X : Type 0) : Type 0 where
  pub so : X → (w : List ℕ) (ns : List Numeral) → P w ns → InRange ns

says_next : {P Q : Numbered} {X Y : Type 0} → Says P X → Says Q Y → Says (P next Q) (X × Y)
says_next {P} {Q} {X} {Y} p q = record { so = so }
  where
    so : (w : List ℕ) (ns : List Numeral) → (P next Q) w ns → InRange ns → X × Y
    so w ns (a, b, ls, ms, g, h, e, f) r =
        let r' = subst InRange (sym f) r in
        (p.so a ls g (in_left ls (shifted (length a) ms) r'), q.so b ms h (in_unshifted (length a) ms (in_right ls (shifted (length a) ms) r')))

has_next : {P Q : Numbered} {X Y : Type 0} → Has P X → Has Q Y → Has (P next Q) (X × Y)
has_next {P} {Q} {X} {Y} p q = record { so = so }
  where
    so : X × Y → (w : List ℕ) (ns : List Numeral) → (P next Q) w ns → InRange ns
    so x w ns (a, b, ls, ms, g, h, e, f) = subst InRange f (in_both ls (shifted (length a) ms) (p.so x.0 a ls g) (in_shifted (length a) ms (q.so x.1 b ms h)))

says_plain : {L : Language} → Says (plain L) (Unit {0})
says_plain = record { so = λ w ns p r. tt }

has_plain : {L : Language} → Has (plain L) (Unit {0})
unfolding InRange
has_plain = record { so = λ x w ns p. subst InRange (sym p.1) tt }

says_numeral : {limit n : ℕ} → Says (numeral limit n) (n < limit)
says_numeral {limit} {n} = record { so = λ w ns p r. says_one limit n (subst InRange p.1 r) }

has_numeral : {limit n : ℕ} → Has (numeral limit n) (n < limit)
has_numeral {limit} {n} = record { so = λ x w ns p. subst InRange (sym p.1) (has_one limit n x) }

says_map : {P : Numbered} {X Y : Type 0} → (X → Y) → Says P X → Says P Y
says_map f p = record { so = λ w ns g r. f (p.so w ns g r) }

has_map : {P : Numbered} {X Y : Type 0} → (Y → X) → Has P X → Has P Y
has_map f p = record { so = λ x. p.so (f x) }

-- figures
figure_says : (rs : ℕ) (e : Figure) → Says (FigureNumerals rs e) (FigureWithin e → FigureFits rs e)
unfolding FigureWithin FigureFits
figure_says rs (fixed a) = says_map (λ _ w. w) says_plain
figure_says rs (rate k n) = record { so = so }
  where
    so : (w : List ℕ) (ns : List Numeral) → FigureNumerals rs (rate k n) w ns → InRange ns → Unit {0} → (k < rs) × (n ≤ 4096)
    so w ns (inl p) r _ = let m = (says_next says_plain (says_next says_numeral (says_next says_plain says_numeral))).so w ns p r in (m.1.0, let l = m.1.1.1 in omega arith)
    so w ns (inr p) r _ = let m = (says_next says_plain says_numeral).so w ns p.1 r in (m.1, omega (arith, p.0))
figure_says rs day = says_map (λ _ w. w) says_plain
figure_says rs (plus e f) = says_map (λ m w. (m.1.0 w.0, m.1.1.1.0 w.1, w.2)) (says_next says_plain (says_next (figure_says rs e) (says_next says_plain (says_next (figure_says rs f) says_plain))))
figure_says rs (minus e f) = says_map (λ m w. (m.1.0 w.0, m.1.1.1.0 w.1, w.2)) (says_next says_plain (says_next (figure_says rs e) (says_next says_plain (says_next (figure_says rs f) says_plain))))
figure_says rs (times e f) = says_map (λ m w. (m.1.0 w.0, m.1.1.1.0 w.1, w.2)) (says_next says_plain (says_next (figure_says rs e) (says_next says_plain (says_next (figure_says rs f) says_plain))))
figure_says rs (most e f) = says_map (λ m w. (m.1.0 w.0, m.1.1.1.0 w.1, w.2)) (says_next says_plain (says_next (figure_says rs e) (says_next says_plain (says_next (figure_says rs f) says_plain))))
figure_says rs (less e f) = says_map (λ m w. (m.1.0 w.0, m.1.1.1.0 w.1)) (says_next says_plain (says_next (figure_says rs e) (says_next says_plain (says_next (figure_says rs f) says_plain))))

figure_has : (rs : ℕ) (e : Figure) → Has (FigureNumerals rs e) (FigureFits rs e)
unfolding FigureFits
figure_has rs (fixed a) = has_map (λ _. tt) has_plain
figure_has rs (rate k n) = record { so = so }
  where
    so : (k < rs) × (n ≤ 4096) → (w : List ℕ) (ns : List Numeral) → FigureNumerals rs (rate k n) w ns → InRange ns
    so x w ns (inl p) = (has_next has_plain (has_next has_numeral (has_next has_plain has_numeral))).so (tt, (x.0, (tt, omega (arith, x.1)))) w ns p
    so x w ns (inr p) = (has_next has_plain has_numeral).so (tt, x.0) w ns p.1
figure_has rs day = has_map (λ _. tt) has_plain
figure_has rs (plus e f) = has_map (λ m. (tt, (m.0, (tt, (m.1, tt))))) (has_next has_plain (has_next (figure_has rs e) (has_next has_plain (has_next (figure_has rs f) has_plain))))
figure_has rs (minus e f) = has_map (λ m. (tt, (m.0, (tt, (m.1, tt))))) (has_next has_plain (has_next (figure_has rs e) (has_next has_plain (has_next (figure_has rs f) has_plain))))
figure_has rs (times e f) = has_map (λ m. (tt, (m.0, (tt, (m.1, tt))))) (has_next has_plain (has_next (figure_has rs e) (has_next has_plain (has_next (figure_has rs f) has_plain))))
figure_has rs (most e f) = has_map (λ m. (tt, (m.0, (tt, (m.1, tt))))) (has_next has_plain (has_next (figure_has rs e) (has_next has_plain (has_next (figure_has rs f) has_plain))))
figure_has rs (less e f) = has_map (λ m. (tt, (m.0, (tt, (m.1, tt))))) (has_next has_plain (has_next (figure_has rs e) (has_next has_plain (has_next (figure_has rs f) has_plain))))

-- contracts
pub contract_says : (rs cs : ℕ) (x : Contract) → Says (ContractNumerals rs cs x) (PartsWithin x → PartsFit rs cs x)
unfolding PartsWithin PartsFit
contract_says rs cs nothing = says_map (λ _ w. w) says_plain
contract_says rs cs (pays k a) = says_map (λ m w. (m.1.1.1, w)) (says_next says_plain (says_next says_plain (says_next says_plain says_numeral)))
contract_says rs cs (turned x) = says_map (λ m w. m.1.0 w) (says_next says_plain (says_next (contract_says rs cs x) says_plain))
contract_says rs cs (both x y) = says_map (λ m w. (m.1.0 w.0, m.1.1.1.0 w.1, w.2)) (says_next says_plain (says_next (contract_says rs cs x) (says_next says_plain (says_next (contract_says rs cs y) says_plain))))
contract_says rs cs (choice x y) = says_map (λ m w. (m.1.0 w.0, m.1.1.1.0 w.1, w.2)) (says_next says_plain (says_next (contract_says rs cs x) (says_next says_plain (says_next (contract_says rs cs y) says_plain))))
contract_says rs cs (either e x y) =
    says_map (λ m w. (m.1.0 w.0, m.1.1.1.0 w.1, m.1.1.1.1.1 w.2, w.3))
    (says_next says_plain (says_next (figure_says rs e) (says_next says_plain (says_next (contract_says rs cs x) (says_next says_plain (contract_says rs cs y))))))
contract_says rs cs (scaled e x) = says_map (λ m w. (m.0 w.0, m.1.1 w.1, w.2)) (says_next (figure_says rs e) (says_next says_plain (contract_says rs cs x)))
contract_says rs cs (on_day d x) = says_map (λ m w. (m.1.0, m.1.1.1 w)) (says_next says_plain (says_next says_numeral (says_next says_plain (contract_says rs cs x))))
contract_says rs cs (when e x) = says_map (λ m w. (m.1.0 w.0, m.1.1.1 w.1)) (says_next says_plain (says_next (figure_says rs e) (says_next says_plain (contract_says rs cs x))))
contract_says rs cs (by_day d x) = says_map (λ m w. (m.1.0, m.1.1.1 w)) (says_next says_plain (says_next says_numeral (says_next says_plain (contract_says rs cs x))))

pub contract_has : (rs cs : ℕ) (x : Contract) → Has (ContractNumerals rs cs x) (PartsFit rs cs x)
unfolding PartsFit
contract_has rs cs nothing = has_map (λ _. tt) has_plain
contract_has rs cs (pays k a) = has_map (λ m. (tt, (tt, (tt, m.0)))) (has_next has_plain (has_next has_plain (has_next has_plain has_numeral)))
contract_has rs cs (turned x) = has_map (λ m. (tt, (m, tt))) (has_next has_plain (has_next (contract_has rs cs x) has_plain))
contract_has rs cs (both x y) = has_map (λ m. (tt, (m.0, (tt, (m.1, tt))))) (has_next has_plain (has_next (contract_has rs cs x) (has_next has_plain (has_next (contract_has rs cs y) has_plain))))
contract_has rs cs (choice x y) = has_map (λ m. (tt, (m.0, (tt, (m.1, tt))))) (has_next has_plain (has_next (contract_has rs cs x) (has_next has_plain (has_next (contract_has rs cs y) has_plain))))
contract_has rs cs (either e x y) =
    has_map (λ m. (tt, (m.0, (tt, (m.1, (tt, m.2))))))
    (has_next has_plain (has_next (figure_has rs e) (has_next has_plain (has_next (contract_has rs cs x) (has_next has_plain (contract_has rs cs y))))))
contract_has rs cs (scaled e x) = has_map (λ m. (m.0, (tt, m.1))) (has_next (figure_has rs e) (has_next has_plain (contract_has rs cs x)))
contract_has rs cs (on_day d x) = has_map (λ m. (tt, (m.0, (tt, m.1)))) (has_next has_plain (has_next has_numeral (has_next has_plain (contract_has rs cs x))))
contract_has rs cs (when e x) = has_map (λ m. (tt, (m.0, (tt, m.1)))) (has_next has_plain (has_next (figure_has rs e) (has_next has_plain (contract_has rs cs x))))
contract_has rs cs (by_day d x) = has_map (λ m. (tt, (m.0, (tt, m.1)))) (has_next has_plain (has_next has_numeral (has_next has_plain (contract_has rs cs x))))

-- what fits is within limits
figure_within : (rs : ℕ) (e : Figure) → FigureFits rs e → FigureWithin e
unfolding FigureWithin FigureFits
figure_within rs (fixed a) h = h
figure_within rs (rate k n) h = tt
figure_within rs day h = tt
figure_within rs (plus e f) h = (figure_within rs e h.0, figure_within rs f h.1, h.2)
figure_within rs (minus e f) h = (figure_within rs e h.0, figure_within rs f h.1, h.2)
figure_within rs (times e f) h = (figure_within rs e h.0, figure_within rs f h.1, h.2)
figure_within rs (most e f) h = (figure_within rs e h.0, figure_within rs f h.1, h.2)
figure_within rs (less e f) h = (figure_within rs e h.0, figure_within rs f h.1)

pub parts_within : (rs cs : ℕ) (x : Contract) → PartsFit rs cs x → PartsWithin x
unfolding PartsWithin PartsFit
parts_within rs cs nothing h = tt
parts_within rs cs (pays k a) h = h.1
parts_within rs cs (turned x) h = parts_within rs cs x h
parts_within rs cs (both x y) h = (parts_within rs cs x h.0, parts_within rs cs y h.1, h.2)
parts_within rs cs (choice x y) h = (parts_within rs cs x h.0, parts_within rs cs y h.1, h.2)
parts_within rs cs (either e x y) h = (figure_within rs e h.0, parts_within rs cs x h.1, parts_within rs cs y h.2, h.3)
parts_within rs cs (scaled e x) h = (figure_within rs e h.0, parts_within rs cs x h.1, h.2)
parts_within rs cs (on_day d x) h = parts_within rs cs x h.1
parts_within rs cs (when e x) h = (figure_within rs e h.0, parts_within rs cs x h.1)
parts_within rs cs (by_day d x) h = parts_within rs cs x h.1

pub fits_by_text : FitsByText
unfolding ContractFits
fits_by_text rs cs x text ns p = (
  λ w r. ((contract_says rs cs x).so text ns p r w.small, w.few, w.flat),
  λ f. (record { few = f.1; flat = f.2; small = parts_within rs cs x f.0 }, (contract_has rs cs x).so f.0 text ns p),
)

-- PLACES
pub record Inside (P : Numbered) : Type 0 where
  pub so : (w : List ℕ) (ns : List Numeral) (p : ℕ) → P w ns → FirstOut ns p → p ≤ length w

out_of_two : (ls ms : List Numeral) (p : ℕ) → FirstOut (ls ++ ms) p → FirstOut ls p ⊎ FirstOut ms p
unfolding FirstOut
out_of_two [] ms p h = inr h
out_of_two (l ∷ ls) ms p (inl h) = inl (inl h)
out_of_two (l ∷ ls) ms p (inr h) = elim (out_of_two ls ms p h.1) [ inl g ↦ inl (inr (h.0, g)) | inr g ↦ inr g ]

out_shifted : (a : ℕ) (ns : List Numeral) (p : ℕ) → FirstOut (shifted a ns) p → (q : ℕ) × FirstOut ns q × (p ≡ a + q)
unfolding FirstOut
out_shifted a [] p h = absurd h
out_shifted a (n ∷ ns) p (inl h) = (n.place, inl (h.0, refl), h.1)
out_shifted a (n ∷ ns) p (inr h) = let m = out_shifted a ns p h.1 in (m.0, inr (h.0, m.1), m.2)

inside_next : {P Q : Numbered} → Inside P → Inside Q → Inside (P next Q)
inside_next {P} {Q} p q = record { so = so }
  where
    so : (w : List ℕ) (ns : List Numeral) (i : ℕ) → (P next Q) w ns → FirstOut ns i → i ≤ length w
    so w ns i (a, b, ls, ms, g, h, e, f) o =
        let long = sym (length-append a b) ∙ ap length e in
        elim (out_of_two ls (shifted (length a) ms) i (subst (λ z. FirstOut z i) (sym f) o)) [
          | inl r ↦ let m = p.so a ls i g r in omega arith
          | inr r ↦ let s = out_shifted (length a) ms i r in let m = q.so b ms s.0 h s.1 in omega (arith, s.2)
        ]

none_out : (ns : List Numeral) (p : ℕ) → ns ≡ [] → FirstOut ns p → ⊥
unfolding FirstOut
none_out [] p e h = h
none_out (n ∷ ns) p e h = let z : ◌≡◌ {A = ℕ} 0 1 = cc in omega arith

one_place : (n : Numeral) (p : ℕ) → FirstOut (n ∷ []) p → p ≡ n.place
unfolding FirstOut
one_place n p (inl h) = h.1
one_place n p (inr h) = absurd h.1

one_out : (n : Numeral) (ns : List Numeral) (p : ℕ) → ns ≡ n ∷ [] → FirstOut ns p → p ≡ n.place
one_out n ns p e h = one_place n p (subst (λ z. FirstOut z p) e h)

inside_plain : {L : Language} → Inside (plain L)
inside_plain = record { so = λ w ns p g o. absurd (none_out ns p g.1 o) }

inside_numeral : {limit n : ℕ} → Inside (numeral limit n)
inside_numeral {limit} {n} = record { so = λ w ns p g o. omega (arith, one_out (record { place = 0; limit = limit; value = n }) ns p g.1 o) }

figure_inside : (rs : ℕ) (e : Figure) → Inside (FigureNumerals rs e)
figure_inside rs (fixed a) = inside_plain
figure_inside rs (rate k n) = record { so = so }
  where
    so : (w : List ℕ) (ns : List Numeral) (p : ℕ) → FigureNumerals rs (rate k n) w ns → FirstOut ns p → p ≤ length w
    so w ns p (inl g) o = (inside_next inside_plain (inside_next inside_numeral (inside_next inside_plain inside_numeral))).so w ns p g o
    so w ns p (inr g) o = (inside_next inside_plain inside_numeral).so w ns p g.1 o
figure_inside rs day = inside_plain
figure_inside rs (plus e f) = inside_next inside_plain (inside_next (figure_inside rs e) (inside_next inside_plain (inside_next (figure_inside rs f) inside_plain)))
figure_inside rs (minus e f) = inside_next inside_plain (inside_next (figure_inside rs e) (inside_next inside_plain (inside_next (figure_inside rs f) inside_plain)))
figure_inside rs (times e f) = inside_next inside_plain (inside_next (figure_inside rs e) (inside_next inside_plain (inside_next (figure_inside rs f) inside_plain)))
figure_inside rs (most e f) = inside_next inside_plain (inside_next (figure_inside rs e) (inside_next inside_plain (inside_next (figure_inside rs f) inside_plain)))
figure_inside rs (less e f) = inside_next inside_plain (inside_next (figure_inside rs e) (inside_next inside_plain (inside_next (figure_inside rs f) inside_plain)))

pub contract_inside : (rs cs : ℕ) (x : Contract) → Inside (ContractNumerals rs cs x)
contract_inside rs cs nothing = inside_plain
contract_inside rs cs (pays k a) = inside_next inside_plain (inside_next inside_plain (inside_next inside_plain inside_numeral))
contract_inside rs cs (turned x) = inside_next inside_plain (inside_next (contract_inside rs cs x) inside_plain)
contract_inside rs cs (both x y) = inside_next inside_plain (inside_next (contract_inside rs cs x) (inside_next inside_plain (inside_next (contract_inside rs cs y) inside_plain)))
contract_inside rs cs (choice x y) = inside_next inside_plain (inside_next (contract_inside rs cs x) (inside_next inside_plain (inside_next (contract_inside rs cs y) inside_plain)))
contract_inside rs cs (either e x y) =
    inside_next inside_plain (inside_next (figure_inside rs e) (inside_next inside_plain (inside_next (contract_inside rs cs x) (inside_next inside_plain (contract_inside rs cs y)))))
contract_inside rs cs (scaled e x) = inside_next (figure_inside rs e) (inside_next inside_plain (contract_inside rs cs x))
contract_inside rs cs (on_day d x) = inside_next inside_plain (inside_next inside_numeral (inside_next inside_plain (contract_inside rs cs x)))
contract_inside rs cs (when e x) = inside_next inside_plain (inside_next (figure_inside rs e) (inside_next inside_plain (contract_inside rs cs x)))
contract_inside rs cs (by_day d x) = inside_next inside_plain (inside_next inside_numeral (inside_next inside_plain (contract_inside rs cs x)))

-- what was noted of a whole text
shifted_none : (ns : List Numeral) → shifted 0 ns ≡ ns
shifted_none [] = refl
shifted_none (n ∷ ns) = let same : 0 + n.place ≡ n.place = omega arith in λ i. record { place = same i; limit = n.limit; value = n.value } ∷ shifted_none ns i

pub record Found (rs cs : ℕ) (text : List ℕ) (x : Contract) (first : Option ℕ) : Type 0 where
  pub numbers : List Numeral
  pub of_text : ContractNumerals rs cs x text numbers
  pub first_is : MatchOption first (InRange numbers) (λ p. FirstOut numbers p)

pub found : (rs cs : ℕ) (text : List ℕ) (r r' : Ranges) (x : Contract) → Counts r rs cs [] → Noted r r' (λ rs cs. ContractNumerals rs cs x) text 0 (length text) → Found rs cs text x r'.first
found rs cs text r r' x c n =
    let m = n.notes rs cs [] c in
    let whole : between 0 (length text) text ≡ text = let all : length text - 0 ≡ length text = omega arith in ap (λ k. take k text) all ∙ take_all (length text) text (omega arith) in
    record {
      numbers = m.0;
      of_text = subst (λ w. ContractNumerals rs cs x w m.0) whole m.1;
      first_is = subst (λ z. MatchOption r'.first (InRange z) (λ p. FirstOut z p)) (shifted_none m.0) m.2.first_is;
    }

pub refused_number : (rs cs : ℕ) (text : List ℕ) (x : Contract) (first : Option ℕ) (p : ℕ) → Found rs cs text x first → first ≡ Some p → length text ≤ 8192 → Text x text → IsWithinLimits x → TextRefused rs cs text 2 p × (p ≤ length text)
refused_number rs cs text x first p f e short t w =
    let o = subst (λ z. MatchOption z (InRange f.numbers) (λ p. FirstOut f.numbers p)) e f.first_is in
    (out_of_range x f.numbers short t w f.of_text o, (contract_inside rs cs x).so text f.numbers p f.of_text o)

pub taken_all : (rs cs : ℕ) (text : List ℕ) (x : Contract) (first : Option ℕ) → Found rs cs text x first → first ≡ None → length text ≤ 8192 → Text x text → IsWithinLimits x → TextTaken rs cs text x
taken_all rs cs text x first f e short t w =
    let r = subst (λ z. MatchOption z (InRange f.numbers) (λ p. FirstOut f.numbers p)) e f.first_is in
    record { short = short; text_of = t; fits = (fits_by_text rs cs x text f.numbers f.of_text).0 w r }
