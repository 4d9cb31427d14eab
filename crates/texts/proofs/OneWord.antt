-- What the reader of a word promises. Assumes nothing.
use Rattle.std.proofs.Common.{◌≡◌, ℕ, true, false, Some, None, Option, unwrap_or, nat_eq, ◌+◌, ◌<◌, ◌≤◌, List, [], ◌∷◌, ◌++◌, length, get_or, take, drop, sym, refl, ap, ◌∙◌, append_assoc, arith, take-append-drop}
use native.Mathlib.Decide.{dec_lt}
use Rattle.std.specs.Option.{option_eq}
use Rattle.std.proofs.lemmas.Bool.{false≢true, eqb-true}
use Rattle.std.proofs.lemmas.Bool.Decides.{nat_tests}
use Rattle.std.specs.List.{between}
use Rattle.std.proofs.lemmas.List.{get_or_append_left, get_or_at, get_or_past, get_or_default, length-take-le}
use Rattle.std.proofs.lemmas.List.Edits.{between_none, between_more}
use Rattle.texts.specs.Reading.{byte_at, Any, Word, Took, Stops}

pub word_took : (text s : List ℕ) (at to : ℕ) → at ≤ to → to ≤ length text → between at to text ≡ s → Took Any (Word s) text at to tt
word_took text s at to h k e = record {
  forward = h;
  within = k;
  taken = record { word = e; only = λ y w r p f b. (p ∙ sym e, refl) };
}

-- the text goes on as the word does for i bytes, and then has another byte
pub word_stops : (text s : List ℕ) (at to i : ℕ) → at ≤ to → to ≤ length text → i < length s → between at to text ≡ take i s →
    (byte_at text to ≡ get_or s i 0 → ⊥) → Stops Any (Word s) text at to
word_stops text s at to i h k l e n = record {
  forward = h;
  within = k;
  stuck = record {
    goes = (tt, drop i s, ap (λ r. r ++ drop i s) e ∙ take-append-drop i s);
    none = λ y w r p f b.
        let long : length (between at to text) ≡ i = ap length e ∙ length-take-le i s (omega arith) in
        n (sym (get_or_at (between at to text) (byte_at text to) b.0 256 i long)
        ∙ ap (λ v. get_or v i 256) (sym (append_assoc (between at to text) (byte_at text to ∷ []) b.0) ∙ b.1 ∙ ap (λ v. v ++ r) p)
        ∙ get_or_append_left s r 256 i l ∙ get_or_default s i 256 0 l);
  };
}

-- a byte that is one stands within the text
pub byte_within : (text : List ℕ) (i b : ℕ) → byte_at text i ≡ b → b < 256 → i < length text
byte_within text i b e h = at (dec_lt i (length text))
  where
    at : Dec (i < length text) → i < length text
    at (yes l) = l
    at (no n) =
        let past : length text ≤ i = omega arith in
        let same : b ≡ 256 = sym e ∙ get_or_past text i 256 past in
        omega arith

-- a word of one byte
pub byte_took : (text : List ℕ) (at b : ℕ) → byte_at text at ≡ b → b < 256 → Took Any (Word (b ∷ [])) text at (at + 1) tt
byte_took text at b e small =
    let near = byte_within text at b e small in
    word_took text (b ∷ []) at (at + 1) (omega arith) (omega arith)
    (between_more text at at 256 (omega arith) near ∙ ap (λ u. u ++ byte_at text at ∷ []) (between_none text at) ∙ ap (λ c. c ∷ []) e)

pub byte_stops : (text : List ℕ) (at b : ℕ) → at ≤ length text → (byte_at text at ≡ b → ⊥) → Stops Any (Word (b ∷ [])) text at at
byte_stops text at b h n = word_stops text (b ∷ []) at at 0 (omega arith) h (omega arith) (between_none text at) n

-- the byte at a place is this one, or it isn't
pub byte_is : (o : Option ℕ) (b : ℕ) {c : ℕ} → option_eq nat_eq o (Some b) ≡ true → unwrap_or o 256 ≡ c → c ≡ b
byte_is None b t e = absurd (false≢true t)
byte_is (Some n) b t e = sym e ∙ eqb-true n b t

pub byte_not : (o : Option ℕ) (b : ℕ) {c : ℕ} → option_eq nat_eq o (Some b) ≡ false → unwrap_or o 256 ≡ c → b < 256 → c ≡ b → ⊥
byte_not None b t e small s = omega arith
byte_not (Some n) b t e small s = let same : n ≡ b = e ∙ s in grind (arith, nat_tests)
