-- The numbers of a text are one row at most: what a contract's text is made of can be told apart in one way. Assumes nothing.
use Rattle.std.proofs.Common.{◌≡◌, ℕ, ◌-◌, ◌≤◌, true, false, List, [], ◌∷◌, ◌++◌, length, take, ℤ, codes, sym, refl, ap, ◌∙◌, subst, inl, inr, append_assoc, arith, length-append}
use Rattle.std.specs.List.{between}
use Rattle.std.proofs.lemmas.List.{append_cancel_left, append_cancel_right, take_at}
use Rattle.deals.specs.Contract.{Figure, fixed, rate, day, plus, minus, times, most, less, Contract, nothing, pays, turned, both, choice, either, scaled, on_day, when, by_day}
use Rattle.texts.specs.Text.{Language, exactly, ◌then◌, digit, digits, Number, Amount, Rate, FigureText, Text}
use Rattle.texts.specs.Reading.{byte_at, Any, NoDigit, Word}
use Rattle.texts.specs.Bounds.{Numeral, Numbered, shifted, plain, numeral, ◌next◌, FigureNumerals, ContractNumerals}
use Rattle.std.proofs.lemmas.Bool.{and_parts}
use Rattle.texts.proofs.Numerals.{clash}
use Rattle.texts.proofs.Whole.{begins_text}
use Rattle.texts.proofs.OneContract.{At, at_number, at_amount, at_figure, at_text}

-- WHAT STANDS FIRST is told by what may follow
pub record Split (L F : Language) : Type 0 where
  pub so : (a c b d : List ℕ) → L a → L c → F b → F d → a ++ b ≡ c ++ d → a ≡ c

split_word : {s : List ℕ} → Split (Word s tt) Any
split_word = record { so = λ a c b d p q f g e. p ∙ sym q }

first_of : (b : List ℕ) → byte_at (b ++ 256 ∷ []) 0 ≡ byte_at b 0
first_of [] = refl
first_of (x ∷ b) = refl

-- a text in front of what may follow is read as a whole
front_is : (a b : List ℕ) → between 0 (length a) (a ++ b) ≡ a
front_is a b = let same : length a - 0 ≡ length a = omega arith in ap (λ n. take n (a ++ b)) same ∙ take_at a b (length a) refl

behind_is : (a b : List ℕ) → byte_at (a ++ b) (length a) ≡ byte_at b 0
behind_is [] b = refl
behind_is (x ∷ a) b = behind_is a b

at_split : {A : Type 0} {L : A → Language} {x : A} → At NoDigit L x → Split (L x) NoDigit
at_split {L = L} {x = x} at = record { so = so }
  where
    so : (a c b d : List ℕ) → L x a → L x c → NoDigit b → NoDigit d → a ++ b ≡ c ++ d → a ≡ c
    so a c b d p q f g e =
        let within : length a ≤ length (a ++ b) = omega (arith, length-append a b) in
        let plain : digit (byte_at (a ++ b) (length a)) ≡ false = ap digit (behind_is a b) ∙ f in
        let took = at (a ++ b) 0 (length a) (omega arith) within plain (subst (L x) (sym (front_is a b)) p) in
        let begins = begins_text (a ++ b) (length a) within in
        let whole : (a ++ b) ++ 256 ∷ [] ≡ c ++ (d ++ 256 ∷ []) = ap (λ z. z ++ 256 ∷ []) e ∙ append_assoc c d (256 ∷ []) in
        let calm : NoDigit (d ++ 256 ∷ []) = ap digit (first_of d) ∙ g in
        let same = (took.taken.only x c (d ++ 256 ∷ []) q calm (begins.0, begins.1 ∙ whole)).0 in
        sym (same ∙ front_is a b)

split_number : (n : ℕ) → Split (Number n) NoDigit
split_number n = at_split (at_number n)

split_amount : (z : ℤ) → Split (Amount z) NoDigit
split_amount z = at_split (at_amount z)

split_text : (x : Contract) → Split (Text x) NoDigit
split_text x = at_split (at_text x)

-- a figure goes on with a byte, and no digit behind that
abbrev pub Led : ℕ → Language
Led c b = (t : List ℕ) × (b ≡ c ∷ t) × NoDigit t

split_figure : (e : Figure) (end : ℕ) → digit end ≡ false → Split (FigureText e) (Led end)
split_figure e end plain = record { so = so }
  where
    so : (a c b d : List ℕ) → FigureText e a → FigureText e c → Led end b → Led end d → a ++ b ≡ c ++ d → a ≡ c
    so a c b d p q (t, e1, f) (u, e2, g) eq =
        let left : (a ++ end ∷ []) ++ t ≡ a ++ b = append_assoc a (end ∷ []) t ∙ ap (λ z. a ++ z) (sym e1) in
        let right : (c ++ end ∷ []) ++ u ≡ c ++ d = append_assoc c (end ∷ []) u ∙ ap (λ z. c ++ z) (sym e2) in
        append_cancel_right a c (end ∷ [])
        ((at_split (at_figure e end plain)).so (a ++ end ∷ []) (c ++ end ∷ []) t u (a, end ∷ [], p, refl, refl) (c, end ∷ [], q, refl, refl) f g (left ∙ eq ∙ sym right))

-- ONE ROW OF NUMBERS
pub record Once (P : Numbered) : Type 0 where
  pub so : (w : List ℕ) (ls ms : List Numeral) → P w ls → P w ms → ls ≡ ms

pub record Speaks (P : Numbered) (L : Language) : Type 0 where
  pub so : (w : List ℕ) (ns : List Numeral) → P w ns → L w

once_plain : {L : Language} → Once (plain L)
once_plain = record { so = λ w ls ms p q. p.1 ∙ sym q.1 }

once_numeral : {limit n : ℕ} → Once (numeral limit n)
once_numeral = record { so = λ w ls ms p q. p.1 ∙ sym q.1 }

once_next : {P Q : Numbered} {L F : Language} → Speaks P L → Split L F → Speaks Q F → Once P → Once Q → Once (P next Q)
once_next {P} {Q} {L} {F} speaks split follows p q = record { so = so }
  where
    so : (w : List ℕ) (ls ms : List Numeral) → (P next Q) w ls → (P next Q) w ms → ls ≡ ms
    so w ls ms (a, b, js, ks, f, g, e, h) (c, d, os, ps, r, s, t, u) =
        let same : a ≡ c = split.so a c b d (speaks.so a js f) (speaks.so c os r) (follows.so b ks g) (follows.so d ps s) (e ∙ sym t) in
        let rest : b ≡ d = append_cancel_left c b d (ap (λ z. z ++ b) (sym same) ∙ e ∙ sym t) in
        let left : js ≡ os = p.so c js os (subst (λ z. P z js) same f) r in
        let right : ks ≡ ps = q.so d ks ps (subst (λ z. Q z ks) rest g) s in
        sym h ∙ ap (λ z. z ++ shifted (length a) ks) left ∙ ap (λ z. os ++ shifted (length z) ks) same ∙ ap (λ z. os ++ shifted (length c) z) right ∙ u

speaks_plain : {L : Language} → Speaks (plain L) L
speaks_plain = record { so = λ w ns p. p.0 }

speaks_numeral : {limit n : ℕ} → Speaks (numeral limit n) (Number n)
speaks_numeral = record { so = λ w ns p. p.0 }

speaks_next : {P Q : Numbered} {L M : Language} → Speaks P L → Speaks Q M → Speaks (P next Q) (L then M)
speaks_next {P} {Q} {L} {M} p q = record { so = so }
  where
    so : (w : List ℕ) (ns : List Numeral) → (P next Q) w ns → (L then M) w
    so w ns (a, b, ls, ms, f, g, e, h) = (a, b, p.so a ls f, q.so b ms g, e)

speaks_any : {P : Numbered} → Speaks P Any
speaks_any = record { so = λ w ns p. tt }

-- what begins with a word that begins with no digit
speaks_calm : {c : ℕ} {s : List ℕ} {Q : Numbered} → digit c ≡ false → Speaks (plain (Word (c ∷ s) tt) next Q) NoDigit
speaks_calm {c} {s} {Q} calm = record { so = so }
  where
    so : (w : List ℕ) (ns : List Numeral) → (plain (Word (c ∷ s) tt) next Q) w ns → NoDigit w
    so w ns (a, b, ls, ms, f, g, e, h) = ap (λ z. digit (byte_at z 0)) (sym e ∙ ap (λ z. z ++ b) f.0) ∙ calm

speaks_end : {c : ℕ} {s : List ℕ} → digit c ≡ false → Speaks (plain (Word (c ∷ s) tt)) NoDigit
speaks_end calm = record { so = λ w ns p. ap (λ z. digit (byte_at z 0)) p.0 ∙ calm }

-- the same for figures: a byte, and another behind it that is no digit
speaks_led : {c d : ℕ} {s : List ℕ} {Q : Numbered} → digit d ≡ false → Speaks (plain (Word (c ∷ d ∷ s) tt) next Q) (Led c)
speaks_led {c} {d} {s} {Q} calm = record { so = so }
  where
    so : (w : List ℕ) (ns : List Numeral) → (plain (Word (c ∷ d ∷ s) tt) next Q) w ns → Led c w
    so w ns (a, b, ls, ms, f, g, e, h) = (d ∷ (s ++ b), sym e ∙ ap (λ z. z ++ b) f.0, calm)

speaks_closed : {c : ℕ} → Speaks (plain (Word (c ∷ []) tt)) (Led c)
speaks_closed {c} = record { so = λ w ns p. ([], p.0, refl) }

-- FIGURES
figure_speaks : (rs : ℕ) (e : Figure) → Speaks (FigureNumerals rs e) (FigureText e)
figure_speaks rs (fixed a) = speaks_plain
figure_speaks rs (rate k n) = record { so = so }
  where
    so : (w : List ℕ) (ns : List Numeral) → FigureNumerals rs (rate k n) w ns → Rate k n w
    so w ns (inl p) = inl ((speaks_next speaks_plain (speaks_next speaks_numeral (speaks_next speaks_plain speaks_numeral))).so w ns p)
    so w ns (inr p) = inr (p.0, (speaks_next speaks_plain speaks_numeral).so w ns p.1)
figure_speaks rs day = speaks_plain
figure_speaks rs (plus e f) = speaks_next speaks_plain (speaks_next (figure_speaks rs e) (speaks_next speaks_plain (speaks_next (figure_speaks rs f) speaks_plain)))
figure_speaks rs (minus e f) = speaks_next speaks_plain (speaks_next (figure_speaks rs e) (speaks_next speaks_plain (speaks_next (figure_speaks rs f) speaks_plain)))
figure_speaks rs (times e f) = speaks_next speaks_plain (speaks_next (figure_speaks rs e) (speaks_next speaks_plain (speaks_next (figure_speaks rs f) speaks_plain)))
figure_speaks rs (most e f) = speaks_next speaks_plain (speaks_next (figure_speaks rs e) (speaks_next speaks_plain (speaks_next (figure_speaks rs f) speaks_plain)))
figure_speaks rs (less e f) = speaks_next speaks_plain (speaks_next (figure_speaks rs e) (speaks_next speaks_plain (speaks_next (figure_speaks rs f) speaks_plain)))

same_digits_run : (c b d : List ℕ) → digits c ≡ true → digits b ≡ true → NoDigit d → c ++ d ≡ b → c ≡ b
same_digits_run [] [] d p q f e = refl
same_digits_run [] (x ∷ b) d p q f e = absurd (clash (digit x) (and_parts (digit x) (digits b) q).0 (ap (λ z. digit (byte_at z 0)) (sym e) ∙ f))
same_digits_run (y ∷ c) [] d p q f e = let z : ◌≡◌ {A = ℕ} 0 1 = cc in absurd (omega arith)
same_digits_run (y ∷ c) (x ∷ b) d p q f e =
    let head : y ≡ x = cc in
    let tail : c ++ d ≡ b = cc in
    let run = same_digits_run c b d (and_parts (digit y) (digits c) p).1 (and_parts (digit x) (digits b) q).1 f tail in
    cc

same_digits : (c b d : List ℕ) → digits c ≡ true → digits b ≡ true → (t : List ℕ) → d ≡ t → NoDigit t → c ++ d ≡ b → c ≡ b
same_digits c b d p q t e calm whole = same_digits_run c b d p q (ap (λ z. digit (byte_at z 0)) e ∙ calm) whole

-- with an n and without one are two texts
rate_clash : (k j n : ℕ) (w : List ℕ) → (exactly "rate " then Number k then exactly " " then Number n) w → (exactly "rate " then Number j) w → ⊥
rate_clash k j n w (a, b, p, (c, d, q, (f, g, r, s, t), u), v) (a', b', p', q', v') =
    let whole : b ≡ b' = append_cancel_left (codes "rate ") b b' (ap (λ z. z ++ b) (sym p) ∙ v ∙ sym v' ∙ ap (λ z. z ++ b') p') in
    let space : d ≡ 32 ∷ g = sym t ∙ ap (λ z. z ++ g) r in
    let same : c ≡ b' = same_digits c b' d q.plain q'.plain (32 ∷ g) space refl (u ∙ whole) in
    let long = length-append c d in
    let all = ap length (u ∙ whole) in
    omega (arith, ap length same, ap length space)

figure_once : (rs : ℕ) (e : Figure) → Once (FigureNumerals rs e)
figure_once rs (fixed a) = once_plain
figure_once rs (rate k n) = record { so = so }
  where
    long : Once (plain (exactly "rate ") next numeral rs k next plain (exactly " ") next numeral 4097 n)
    long = once_next speaks_plain split_word speaks_any once_plain (once_next speaks_numeral (split_number k) (speaks_calm refl) once_numeral (once_next speaks_plain split_word speaks_any once_plain once_numeral))

    short : Once (plain (exactly "rate ") next numeral rs k)
    short = once_next speaks_plain split_word speaks_any once_plain once_numeral

    long_text : Speaks (plain (exactly "rate ") next numeral rs k next plain (exactly " ") next numeral 4097 n) (exactly "rate " then Number k then exactly " " then Number n)
    long_text = speaks_next speaks_plain (speaks_next speaks_numeral (speaks_next speaks_plain speaks_numeral))

    short_text : Speaks (plain (exactly "rate ") next numeral rs k) (exactly "rate " then Number k)
    short_text = speaks_next speaks_plain speaks_numeral

    so : (w : List ℕ) (ls ms : List Numeral) → FigureNumerals rs (rate k n) w ls → FigureNumerals rs (rate k n) w ms → ls ≡ ms
    so w ls ms (inl p) (inl q) = long.so w ls ms p q
    so w ls ms (inl p) (inr q) = absurd (rate_clash k k n w (long_text.so w ls p) (short_text.so w ms q.1))
    so w ls ms (inr p) (inl q) = absurd (rate_clash k k n w (long_text.so w ms q) (short_text.so w ls p.1))
    so w ls ms (inr p) (inr q) = short.so w ls ms p.1 q.1
figure_once rs day = once_plain
figure_once rs (plus e f) =
    once_next speaks_plain split_word speaks_any once_plain (once_next (figure_speaks rs e) (split_figure e 32 refl) (speaks_led refl) (figure_once rs e)
    (once_next speaks_plain split_word speaks_any once_plain (once_next (figure_speaks rs f) (split_figure f 41 refl) speaks_closed (figure_once rs f) once_plain)))
figure_once rs (minus e f) =
    once_next speaks_plain split_word speaks_any once_plain (once_next (figure_speaks rs e) (split_figure e 32 refl) (speaks_led refl) (figure_once rs e)
    (once_next speaks_plain split_word speaks_any once_plain (once_next (figure_speaks rs f) (split_figure f 41 refl) speaks_closed (figure_once rs f) once_plain)))
figure_once rs (times e f) =
    once_next speaks_plain split_word speaks_any once_plain (once_next (figure_speaks rs e) (split_figure e 32 refl) (speaks_led refl) (figure_once rs e)
    (once_next speaks_plain split_word speaks_any once_plain (once_next (figure_speaks rs f) (split_figure f 41 refl) speaks_closed (figure_once rs f) once_plain)))
figure_once rs (most e f) =
    once_next speaks_plain split_word speaks_any once_plain (once_next (figure_speaks rs e) (split_figure e 44 refl) (speaks_led refl) (figure_once rs e)
    (once_next speaks_plain split_word speaks_any once_plain (once_next (figure_speaks rs f) (split_figure f 41 refl) speaks_closed (figure_once rs f) once_plain)))
figure_once rs (less e f) =
    once_next speaks_plain split_word speaks_any once_plain (once_next (figure_speaks rs e) (split_figure e 32 refl) (speaks_led refl) (figure_once rs e)
    (once_next speaks_plain split_word speaks_any once_plain (once_next (figure_speaks rs f) (split_figure f 41 refl) speaks_closed (figure_once rs f) once_plain)))

-- CONTRACTS
pub contract_speaks : (rs cs : ℕ) (x : Contract) → Speaks (ContractNumerals rs cs x) (Text x)
contract_speaks rs cs nothing = speaks_plain
contract_speaks rs cs (pays k a) = speaks_next speaks_plain (speaks_next speaks_plain (speaks_next speaks_plain speaks_numeral))
contract_speaks rs cs (turned x) = speaks_next speaks_plain (speaks_next (contract_speaks rs cs x) speaks_plain)
contract_speaks rs cs (both x y) = speaks_next speaks_plain (speaks_next (contract_speaks rs cs x) (speaks_next speaks_plain (speaks_next (contract_speaks rs cs y) speaks_plain)))
contract_speaks rs cs (choice x y) = speaks_next speaks_plain (speaks_next (contract_speaks rs cs x) (speaks_next speaks_plain (speaks_next (contract_speaks rs cs y) speaks_plain)))
contract_speaks rs cs (either e x y) =
    speaks_next speaks_plain (speaks_next (figure_speaks rs e) (speaks_next speaks_plain (speaks_next (contract_speaks rs cs x) (speaks_next speaks_plain (contract_speaks rs cs y)))))
contract_speaks rs cs (scaled e x) = speaks_next (figure_speaks rs e) (speaks_next speaks_plain (contract_speaks rs cs x))
contract_speaks rs cs (on_day d x) = speaks_next speaks_plain (speaks_next speaks_numeral (speaks_next speaks_plain (contract_speaks rs cs x)))
contract_speaks rs cs (when e x) = speaks_next speaks_plain (speaks_next (figure_speaks rs e) (speaks_next speaks_plain (contract_speaks rs cs x)))
contract_speaks rs cs (by_day d x) = speaks_next speaks_plain (speaks_next speaks_numeral (speaks_next speaks_plain (contract_speaks rs cs x)))

pub contract_once : (rs cs : ℕ) (x : Contract) → Once (ContractNumerals rs cs x)
contract_once rs cs nothing = once_plain
contract_once rs cs (pays k a) =
    once_next speaks_plain split_word speaks_any once_plain (once_next speaks_plain (split_amount a) (speaks_calm refl) once_plain (once_next speaks_plain split_word speaks_any once_plain once_numeral))
contract_once rs cs (turned x) = once_next speaks_plain split_word speaks_any once_plain (once_next (contract_speaks rs cs x) (split_text x) (speaks_end refl) (contract_once rs cs x) once_plain)
contract_once rs cs (both x y) =
    once_next speaks_plain split_word speaks_any once_plain (once_next (contract_speaks rs cs x) (split_text x) (speaks_calm refl) (contract_once rs cs x)
    (once_next speaks_plain split_word speaks_any once_plain (once_next (contract_speaks rs cs y) (split_text y) (speaks_end refl) (contract_once rs cs y) once_plain)))
contract_once rs cs (choice x y) =
    once_next speaks_plain split_word speaks_any once_plain (once_next (contract_speaks rs cs x) (split_text x) (speaks_calm refl) (contract_once rs cs x)
    (once_next speaks_plain split_word speaks_any once_plain (once_next (contract_speaks rs cs y) (split_text y) (speaks_end refl) (contract_once rs cs y) once_plain)))
contract_once rs cs (either e x y) =
    once_next speaks_plain split_word speaks_any once_plain (once_next (figure_speaks rs e) (split_figure e 32 refl) (speaks_led refl) (figure_once rs e)
    (once_next speaks_plain split_word speaks_any once_plain (once_next (contract_speaks rs cs x) (split_text x) (speaks_calm refl) (contract_once rs cs x)
    (once_next speaks_plain split_word speaks_any once_plain (contract_once rs cs y)))))
contract_once rs cs (scaled e x) =
    once_next (figure_speaks rs e) (split_figure e 32 refl) (speaks_led refl) (figure_once rs e) (once_next speaks_plain split_word speaks_any once_plain (contract_once rs cs x))
contract_once rs cs (when e x) =
    once_next speaks_plain split_word speaks_any once_plain (once_next (figure_speaks rs e) (split_figure e 58 refl) (speaks_led refl) (figure_once rs e) (once_next speaks_plain split_word speaks_any once_plain (contract_once rs cs x)))
contract_once rs cs (on_day d x) =
    once_next speaks_plain split_word speaks_any once_plain (once_next speaks_numeral (split_number d) (speaks_calm refl) once_numeral (once_next speaks_plain split_word speaks_any once_plain (contract_once rs cs x)))
contract_once rs cs (by_day d x) =
    once_next speaks_plain split_word speaks_any once_plain (once_next speaks_numeral (split_number d) (speaks_calm refl) once_numeral (once_next speaks_plain split_word speaks_any once_plain (contract_once rs cs x)))
