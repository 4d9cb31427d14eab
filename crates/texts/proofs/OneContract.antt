-- A text is one contract's at most: whatever text a contract has is read as it, and as nothing else. Assumes nothing.
use Rattle.std.proofs.lemmas.Bool.{false≢true, cases_eq}
use Rattle.std.proofs.Common.{◌≡◌, ℕ, suc, ◌+◌, ◌-◌, ◌<◌, ◌≤◌, true, false, eqb, ◌⊎◌, List, [], ◌∷◌, ◌++◌, length, ℤ, pos, negsuc, codes, sym, refl, ap, ◌∙◌, subst, inl, inr, append_assoc, arith, length-append}
use Rattle.std.specs.List.{between}
use Rattle.std.proofs.lemmas.List.{take_at, drop_at, take_all, get_or_past, append-nil}
use Rattle.std.proofs.lemmas.List.Edits.{length-between}
use Rattle.deals.specs.Contract.{Figure, fixed, rate, day, plus, minus, times, most, less, Contract, nothing, pays, turned, both, choice, either, scaled, on_day, when, by_day}
use Rattle.texts.specs.Text.{Language, exactly, ◌then◌, digit, spelt, Number, Amount, FigureText, Text}
use Rattle.texts.specs.Reading.{byte_at, Any, NoDigit, Word, Positive, Took}
use Rattle.texts.specs.Figures.{Ended, RateEnding, Operator, add, subtract, multiply, compare, operator_byte, OperatorText, applied}
use Rattle.texts.specs.Openings.{PairText, DayColon}
use Rattle.texts.specs.Written.{OneAtMost}
use Rattle.texts.proofs.Parts.{by_words, Pair, Follows, free, by_end, then_took, calm_took, between_then, between_first, begins_byte}
use Rattle.texts.proofs.Thens.{then_left, then_right, then_map, with_end, read_so}
use Rattle.texts.proofs.OneWord.{word_took}
use Rattle.texts.proofs.Numerals.{clash, same_run, plain_took, minus_as}
use Rattle.texts.proofs.RateEnd.{number_digit, end_took, space_took, n_as}
use Rattle.texts.proofs.FigureParts.{starts, figure_starts, by_rate_end, by_operator, operator_took, bracketed, fixed_as, rate_as, day_as, larger_as, bracket_as}
use Rattle.texts.proofs.ContractParts.{nothing_as, pays_as, turned_as, both_as, choice_as, either_as, scaled_as, on_as, when_as, by_as, pair_as, day_as as colon-as, figure_head, figure_heads}

-- every text of x in a longer one, with what may follow it behind it, is read as x
abbrev pub At : {A : Type 0} → Language → (A → Language) → A → Type 0
At F L x = (text : List ℕ) (a b : ℕ) → a ≤ b → b ≤ length text → F (byte_at text b ∷ []) → L x (between a b text) → Took F L text a b x

-- what may follow is told by its first byte
abbrev Headed : Language → Type 0
Headed F = (w : List ℕ) (c : ℕ) → byte_at w 0 ≡ c → F w → F (c ∷ [])

any_headed : Headed Any
any_headed w c e f = tt

no_digit_headed : Headed NoDigit
no_digit_headed w c e f = ap digit (sym e) ∙ f

at_then : {A B : Type 0} {F G : Language} {L : A → Language} {N : B → Language} {x : A} {y : B} → Headed F → Follows F G N → At F L x → At G N y → At G (Pair L N) (x, y)
at_then {L = L} {N = N} {x = x} {y = y} headed follows p q text a b h k g (u, v, l, n, e) =
    let all = length-between text a b k in
    let parts = ap length e ∙ all in
    let long = length-append u v in
    let m = a + length u in
    let le : m ≤ b = omega arith in
    let lo : a ≤ m = omega arith in
    let in' : m ≤ length text = omega arith in
    let first : length (between a m text) ≡ length u = length-between text a m in' ∙ omega arith in
    let whole : between a m text ++ between m b text ≡ u ++ v = between_then text a m b lo le ∙ sym e in
    let left : between a m text ≡ u = sym (take_at (between a m text) (between m b text) (length u) first) ∙ ap (λ z. lib.ListN.take (length u) z) whole ∙ take_at u v (length u) refl in
    let right : between m b text ≡ v = sym (drop_at (between a m text) (between m b text) (length u) first) ∙ ap (λ z. lib.ListN.drop (length u) z) whole ∙ drop_at u v (length u) refl in
    let n' = subst (N y) (sym right) n in
    then_took follows
    (p text a m lo in' (headed (between m b text ++ byte_at text b ∷ []) (byte_at text m) (between_first text m b le k) (follows.so y (between m b text) (byte_at text b ∷ []) n' g)) (subst (L x) (sym left) l))
    (q text m b le k g n')

at_word : {s : List ℕ} → At Any (Word s) tt
at_word text a b h k f e = word_took text _ a b h k e

at_calm : {s : List ℕ} → At NoDigit (Word s) tt
at_calm text a b h k f e = calm_took (word_took text _ a b h k e)

-- the bytes of a text that begins with a word
module _ (s : List ℕ) (Q : Language) (text : List ℕ) (a b : ℕ) (h : a ≤ b) (k : b ≤ length text) (t : (Word s tt then Q) (between a b text)) where
  byte_of : (i : ℕ) → a + i ≤ b → (r : List ℕ) × (byte_at text (a + i) ≡ byte_at (s ++ r) i)
  byte_of i l = (
    t.1 ++ byte_at text b ∷ [],
    sym (begins_byte text (between a b text ++ byte_at text b ∷ []) a b i h k l ([], append-nil (between a b text ++ byte_at text b ∷ [])))
        ∙ ap (λ z. byte_at (z ++ byte_at text b ∷ []) i) (sym t.4 ∙ ap (λ z. z ++ t.1) t.2) ∙ ap (λ z. byte_at z i) (append_assoc s t.1 (byte_at text b ∷ [])),
  )

  first_byte : (r : List ℕ) × (byte_at text a ≡ byte_at (s ++ r) 0)
  first_byte =
      let here : a ≡ a + 0 = omega arith in
      let f = byte_of 0 (omega arith) in
      (f.0, ap (λ i. byte_at text i) here ∙ f.1)

-- numbers
pub at_number : (n : ℕ) → At NoDigit Number n
at_number n text a b h k f t = record {
  forward = h;
  within = k;
  taken = record {
    word = t;
    only = λ y w r m g q.
        let run = same_run (between a b text) w q.0 r (byte_at text b) t.plain f m.plain g (sym (append_assoc (between a b text) (byte_at text b ∷ []) q.0) ∙ q.1) in
        (run, sym m.worth ∙ ap (spelt 0) run ∙ t.worth);
  };
}

at_positive : (n : ℕ) → At NoDigit Positive n
at_positive n text a b h k f t =
    let taken = (at_number (suc n) text a b h k f t).taken in
    record { forward = h; within = k; taken = record { word = t; only = λ y w r m g q. let one = taken.only (suc y) w r m g q in (one.0, omega (arith, one.1)) } }

pub at_amount : (z : ℤ) → At NoDigit Amount z
at_amount (pos n) text a b h k f t =
    let d : digit (byte_at text a) ≡ true = ap digit (sym (between_first text a b h k)) ∙ number_digit n (between a b text) (byte_at text b ∷ []) t in
    plain_took text a b (λ e. clash (digit (byte_at text a)) d (ap digit e)) n (at_number n text a b h k f t)
at_amount (negsuc n) text a b h k f t =
    minus_as text a b (first_byte (codes "-") (Number (suc n)) text a b h k t).1 (at_then any_headed free at_word (at_positive n) text a b h k f t)

-- what stands behind a rate's k
module _ (end : ℕ) (plain : digit end ≡ false) where
  at_rate_end : (n : ℕ) → At NoDigit (RateEnding end) n
  at_rate_end n text a b h k f (inl t) =
      n_as text a b end space (λ _. asked) plain past (at_then any_headed free at_word (at_then no_digit_headed (by_end plain) (at_number n) at_calm) text a b h k f t)
    where
      space : byte_at text a ≡ 32
      space = (first_byte (32 ∷ []) _ text a b h k t).1

      past : a + 1 ≤ b
      past =
          let all = length-between text a b k in
          let parts = ap length (sym t.4) ∙ length-append t.0 t.1 in
          let first = ap length t.2 in
          omega arith

      whole : between a b text ++ byte_at text b ∷ [] ≡ 32 ∷ (t.3.0 ++ (t.3.1 ++ byte_at text b ∷ []))
      whole =
          ap (λ z. z ++ byte_at text b ∷ []) (sym t.4 ∙ ap (λ z. z ++ t.1) t.2 ∙ ap (λ z. 32 ∷ z) (sym t.3.4))
          ∙ ap (λ z. 32 ∷ z) (append_assoc t.3.0 t.3.1 (byte_at text b ∷ []))

      asked : digit (byte_at text (a + 1)) ≡ true
      asked =
          ap digit (sym (begins_byte text (between a b text ++ byte_at text b ∷ []) a b 1 h k past ([], append-nil (between a b text ++ byte_at text b ∷ []))) ∙ ap (λ z. byte_at z 1) whole)
          ∙ number_digit n t.3.0 (t.3.1 ++ byte_at text b ∷ []) t.3.2
  at_rate_end n text a b h k f (inr t) = subst (λ m. Took NoDigit (RateEnding end) text a b m) (sym t.0) (last (cases_eq end 32))
    where
      one : b ≡ a + 1
      one = let all = length-between text a b k in let word = ap length t.1 in omega arith

      byte : byte_at text a ≡ end
      byte = sym (between_first text a b h k) ∙ ap (λ z. byte_at (z ++ byte_at text b ∷ []) 0) t.1

      last : (end ≡ 32) ⊎ (end ≡ 32 → ⊥) → Took NoDigit (RateEnding end) text a b 0
      last (inl e) =
          subst (λ m. Took NoDigit (RateEnding end) text a m 0) (sym one)
          (subst (λ c. Took NoDigit (RateEnding c) text a (a + 1) 0) (sym e) (space_took text a (byte ∙ e) (ap (λ m. digit (byte_at text m)) (sym one) ∙ f)))
      last (inr n) = end_took text a b end (λ e. n (sym byte ∙ e)) (word_took text (end ∷ []) a b h k t.1)

-- what stands between two figures
at_operator : (o : Operator) → At Any OperatorText o
at_operator o text a b h k f t = subst (λ m. Took Any OperatorText text a m o) (sym one) (operator_took text a o byte (small o))
  where
    one : b ≡ a + 1
    one = let all = length-between text a b k in let word = ap length t in omega arith

    byte : byte_at text a ≡ operator_byte o
    byte = sym (between_first text a b h k) ∙ ap (λ z. byte_at (z ++ byte_at text b ∷ []) 0) t

    small : (o : Operator) → operator_byte o < 256
    small add = omega arith
    small subtract = omega arith
    small multiply = omega arith
    small compare = omega arith

-- a figure's first byte in the text
figure_byte : (e : Figure) (Q : Language) (text : List ℕ) (a b : ℕ) → a ≤ b → b ≤ length text → (FigureText e then Q) (between a b text) → starts e (byte_at text a) ≡ true
figure_byte e Q text a b h k t =
    ap (starts e) (sym (between_first text a b h k) ∙ ap (λ z. byte_at (z ++ byte_at text b ∷ []) 0) (sym t.4) ∙ ap (λ z. byte_at z 0) (append_assoc t.0 t.1 (byte_at text b ∷ [])))
    ∙ figure_starts e t.0 (t.1 ++ byte_at text b ∷ []) t.2

rate_open : (j n end : ℕ) (w : List ℕ) → Ended end (rate j n) w → Pair (Word (codes "rate ")) (Pair Number (RateEnding end)) (tt, (j, n)) w
rate_open j n end w (a, b, inl t, e, q) =
    let d = then_right w (a, b, t, e, q) in
    let d' = then_right d.1 d.3 in
    (d.0, d.1, d.2, (d'.0, d'.1, d'.2, inl (then_right d'.1 d'.3), d'.4), d.4)
rate_open j n end w (a, b, inr t, e, q) =
    let d = then_right {R = Word (end ∷ []) tt} w (a, b, t.1, e, q) in
    (d.0, d.1, d.2, (d.3.0, d.3.1, d.3.2, inr (t.0, d.3.3), d.3.4), d.4)

abbrev Bracketed : ℕ → Unit {0} × (Figure × (Operator × (Unit {0} × (Figure × Unit {0})))) → Language
Bracketed end = Pair (Word (codes "(")) (Pair (Ended 32) (Pair OperatorText (Pair (Word (32 ∷ [])) (Pair (Ended 41) (Word (end ∷ []))))))

at_bracket : (end : ℕ) → digit end ≡ false → (e g : Figure) (o : Operator) → At NoDigit (Ended 32) e → At NoDigit (Ended 41) g →
    (text : List ℕ) (a b : ℕ) → a ≤ b → b ≤ length text → digit (byte_at text b) ≡ false → Bracketed end (tt, (e, (o, (tt, (g, tt))))) (between a b text) → Took NoDigit (Ended end) text a b (applied o e g)
at_bracket end plain e g o p q text a b h k f t =
    bracket_as text a end (first_byte (codes "(") _ text a b h k t).1
    (at_then any_headed free at_word
    (at_then no_digit_headed (record { so = λ y w k d g. by_operator y.0 w k d }) p
    (at_then any_headed free (at_operator o) (at_then any_headed free at_word (at_then no_digit_headed (by_end plain) q at_calm)))) text a b h k f t)

pub at_figure : (e : Figure) (end : ℕ) → digit end ≡ false → At NoDigit (Ended end) e
at_figure (fixed z) end plain text a b h k f t =
    let s = figure_byte (fixed z) _ text a b h k t in
    fixed_as text a end
    (λ e. false≢true (ap (starts (fixed z)) (sym e) ∙ s), λ e. false≢true (ap (starts (fixed z)) (sym e) ∙ s), λ e. false≢true (ap (starts (fixed z)) (sym e) ∙ s), λ e. false≢true (ap (starts (fixed z)) (sym e) ∙ s))
    (at_then no_digit_headed (by_end plain) (at_amount z) at_calm text a b h k f t)
at_figure (rate j n) end plain text a b h k f t =
    let o = rate_open j n end (between a b text) t in
    rate_as text a end (first_byte (codes "rate ") _ text a b h k o).1
    (at_then any_headed free at_word (at_then no_digit_headed (by_rate_end plain) (at_number j) (at_rate_end end plain n)) text a b h k f o)
at_figure day end plain text a b h k f t = day_as text a end (first_byte (codes "day") _ text a b h k t).1 (at_then any_headed free at_word at_calm text a b h k f t)
at_figure (most e g) end plain text a b h k f t =
    let o = read_so (FigureText e) (FigureText g) (codes "max(") (32 ∷ []) 44 end (between a b text) t in
    larger_as text a end (first_byte (codes "max(") _ text a b h k o).1
    (at_then any_headed free at_word
    (at_then no_digit_headed (by_words _ refl) (at_figure e 44 refl)
    (at_then any_headed free at_word (at_then no_digit_headed (by_end plain) (at_figure g 41 refl) at_calm))) text a b h k f o)
at_figure (plus e g) end plain text a b h k f t = at_bracket end plain e g add (at_figure e 32 refl) (at_figure g 41 refl) text a b h k f (bracketed e g 43 end (between a b text) t)
at_figure (minus e g) end plain text a b h k f t = at_bracket end plain e g subtract (at_figure e 32 refl) (at_figure g 41 refl) text a b h k f (bracketed e g 45 end (between a b text) t)
at_figure (times e g) end plain text a b h k f t = at_bracket end plain e g multiply (at_figure e 32 refl) (at_figure g 41 refl) text a b h k f (bracketed e g 42 end (between a b text) t)
at_figure (less e g) end plain text a b h k f t = at_bracket end plain e g compare (at_figure e 32 refl) (at_figure g 41 refl) text a b h k f (bracketed e g 60 end (between a b text) t)

-- a contract that begins with a word of some bytes
past_word : {c : ℕ} {s : List ℕ} {Q : Language} (text : List ℕ) (a b : ℕ) → b ≤ length text → (Word (c ∷ s) tt then Q) (between a b text) → a + 1 ≤ b
past_word text a b k t =
    let all = length-between text a b k in
    let parts = ap length (sym t.4) ∙ length-append t.0 t.1 in
    let first = ap length t.2 in
    omega arith

at_pair : (c : ℕ) (s : List ℕ) (x y : Contract) → At NoDigit Text x → At NoDigit Text y → At NoDigit (PairText (c ∷ s)) (x, y)
at_pair c s x y p q text a b h k f t =
    pair_as (at_then any_headed free at_word (at_then no_digit_headed (by_words _ refl) p (at_then any_headed free at_word (at_then no_digit_headed (by_end refl) q at_calm))) text a b h k f t)

at_colon : (d : ℕ) → At Any DayColon d
at_colon d text a b h k f t = colon-as (at_then no_digit_headed (by_end refl) (at_number d) at_word text a b h k f t)

pub at_text : (x : Contract) → At NoDigit Text x
at_text nothing text a b h k f t =
    nothing_as text a (sym (between_first text a b h k) ∙ ap (λ z. byte_at (z ++ byte_at text b ∷ []) 0) t) (at_calm text a b h k f t)
at_text (pays j z) text a b h k f t =
    pays_as text a (first_byte (codes "pays ") _ text a b h k t).1
    (at_then any_headed free at_word (at_then no_digit_headed (by_words _ refl) (at_amount z) (at_then any_headed free at_word (at_number j))) text a b h k f t)
at_text (turned x) text a b h k f t =
    turned_as text a (first_byte (codes "turned(") _ text a b h k t).1 (at_then any_headed free at_word (at_then no_digit_headed (by_end refl) (at_text x) at_calm) text a b h k f t)
at_text (both x y) text a b h k f t =
    let past = past_word text a b k t in
    both_as text a ((first_byte (codes "both(") _ text a b h k t).1, λ e. false≢true (ap (λ n. eqb n 121) (sym (byte_of (codes "both(") _ text a b h k t 1 past).1) ∙ ap (λ n. eqb n 121) e)) past
    (at_pair 98 (codes "oth(") x y (at_text x) (at_text y) text a b h k f t)
at_text (choice x y) text a b h k f t =
    choice_as text a (first_byte (codes "choice(") _ text a b h k t).1 (at_pair 99 (codes "hoice(") x y (at_text x) (at_text y) text a b h k f t)
at_text (either e x y) text a b h k f t =
    let o = then_map (λ _ q. q) (with_end (FigureText e) (Text x then exactly " else " then Text y) 32 (codes "then ")) (between a b text) t in
    either_as text a (first_byte (codes "if ") _ text a b h k t).1
    (at_then any_headed free at_word
    (at_then no_digit_headed (by_words _ refl) (at_figure e 32 refl)
    (at_then any_headed free at_word (at_then no_digit_headed (by_words _ refl) (at_text x) (at_then any_headed free at_word (at_text y))))) text a b h k f o)
at_text (scaled e x) text a b h k f t =
    let s = figure_heads e (byte_at text a) (figure_byte e _ text a b h k t) in
    let o = with_end (FigureText e) (Text x) 32 (codes "of ") (between a b text) t in
    scaled_as text a (
      λ e. false≢true (ap figure_head (sym e) ∙ s),
      λ e. false≢true (ap figure_head (sym e) ∙ s),
      λ e. false≢true (ap figure_head (sym e) ∙ s),
      λ e. false≢true (ap figure_head (sym e) ∙ s),
      λ e. false≢true (ap figure_head (sym e) ∙ s),
      λ e. false≢true (ap figure_head (sym e) ∙ s),
      λ e. false≢true (ap figure_head (sym e) ∙ s),
      λ e. false≢true (ap figure_head (sym e) ∙ s),
    )
    (at_then no_digit_headed (by_words _ refl) (at_figure e 32 refl) (at_then any_headed free at_word (at_text x)) text a b h k f o)
at_text (on_day d x) text a b h k f t =
    on_as text a (first_byte (codes "on ") _ text a b h k t).1
    (at_then any_headed free at_word (at_then any_headed free (at_colon d) (at_text x)) text a b h k f (then_map (λ _ q. q) then_left (between a b text) t))
at_text (when e x) text a b h k f t =
    let o = then_map (λ _ q. q) (with_end (FigureText e) (Text x) 58 (codes " ")) (between a b text) t in
    when_as text a (first_byte (codes "when ") _ text a b h k t).1
    (at_then any_headed free at_word (at_then no_digit_headed (by_words _ refl) (at_figure e 58 refl) (at_then any_headed free at_word (at_text x))) text a b h k f o)
at_text (by_day d x) text a b h k f t =
    let past = past_word text a b k t in
    by_as text a ((first_byte (codes "by ") _ text a b h k t).1, (byte_of (codes "by ") _ text a b h k t 1 past).1) past
    (at_then any_headed free at_word (at_then any_headed free (at_colon d) (at_text x)) text a b h k f (then_map (λ _ q. q) then_left (between a b text) t))

-- the text, with a byte that is none behind it, is read as one contract and no other
pub one_at_most : OneAtMost
one_at_most s x y t r =
    let whole : between 0 (length s) s ≡ s = let all : length s - 0 ≡ length s = omega arith in ap (λ n. lib.ListN.take n s) all ∙ take_all (length s) s (omega arith) in
    let last : byte_at s (length s) ≡ 256 = get_or_past s (length s) 256 (omega arith) in
    let took = at_text x s 0 (length s) (omega arith) (omega arith) (ap digit last) (subst (Text x) (sym whole) t) in
    (took.taken.only y s (256 ∷ []) r refl ([], append-nil (between 0 (length s) s ++ byte_at s (length s) ∷ []) ∙ ap (λ z. z ++ byte_at s (length s) ∷ []) whole ∙ ap (λ c. s ++ c ∷ []) last)).1
