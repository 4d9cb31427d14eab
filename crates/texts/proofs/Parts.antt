-- How what the readers of parts promise gives what the reader of the whole promises. Assumes nothing.
use Rattle.std.proofs.Common.{◌≡◌, ℕ, ◌+◌, ◌-◌, ◌<◌, ◌≤◌, false, List, [], ◌∷◌, ◌++◌, length, take, drop, sym, refl, ap, ◌∙◌, subst, append_assoc, arith, drop-drop, take-add}
use native.Mathlib.Decide.{dec_lt}
use Rattle.std.specs.List.{between}
use Rattle.std.proofs.lemmas.List.{append_cancel_left, get_or_append_left, get_or_at}
use Rattle.std.proofs.lemmas.List.Edits.{length-between, get_or-between, between_none}
use Rattle.texts.specs.Text.{Language, ◌then◌, digit}
use Rattle.texts.specs.Reading.{byte_at, Begins, Any, NoDigit, Word, Taken, Stuck, Took, Stops}

-- a part that begins where another ends
pub between_then : (text : List ℕ) (a b c : ℕ) → a ≤ b → b ≤ c → between a b text ++ between b c text ≡ between a c text
between_then text a b c h k =
    let long : (b - a) + (c - b) ≡ c - a = omega arith in
    let here : a + (b - a) ≡ b = omega arith in
    sym (ap (λ n. take n (drop a text)) (sym long) ∙ take-add (b - a) (c - b) (drop a text)
    ∙ ap (λ r. take (b - a) (drop a text) ++ take (c - b) r) (drop-drop (b - a) a text ∙ ap (λ n. drop n text) here))

-- the first byte of a part and of the byte after it
pub between_first : (text : List ℕ) (a b : ℕ) → a ≤ b → b ≤ length text → byte_at (between a b text ++ byte_at text b ∷ []) 0 ≡ byte_at text a
between_first text a b h k = at (dec_lt a b)
  where
    at : Dec (a < b) → byte_at (between a b text ++ byte_at text b ∷ []) 0 ≡ byte_at text a
    at (yes l) =
        let long : 0 < length (between a b text) = rw (length-between text a b k) (omega arith) in
        let near : a + 0 < b = omega arith in
        let same : a + 0 ≡ a = omega arith in
        get_or_append_left (between a b text) (byte_at text b ∷ []) 256 0 long ∙ get_or-between text a b 0 256 near ∙ ap (λ n. byte_at text n) same
    at (no n) =
        let same : b ≡ a = omega arith in
        ap (λ m. byte_at (between a m text ++ byte_at text m ∷ []) 0) same ∙ ap (λ r. byte_at (r ++ byte_at text a ∷ []) 0) (between_none text a)

-- each byte of what begins with a part and the byte after it
pub begins_byte : (text v : List ℕ) (a b i : ℕ) → a ≤ b → b ≤ length text → a + i ≤ b → Begins (between a b text ++ byte_at text b ∷ []) v → byte_at v i ≡ byte_at text (a + i)
begins_byte text v a b i h k l (t, q) = ap (λ r. byte_at r i) (sym (sym (append_assoc (between a b text) (byte_at text b ∷ []) t) ∙ q)) ∙ at (dec_lt (a + i) b)
  where
    long : length (between a b text) ≡ b - a
    long = length-between text a b k

    at : Dec (a + i < b) → byte_at (between a b text ++ byte_at text b ∷ t) i ≡ byte_at text (a + i)
    at (yes m) =
        let inside : i < length (between a b text) = rw long (omega arith) in
        get_or_append_left (between a b text) (byte_at text b ∷ t) 256 i inside ∙ get_or-between text a b i 256 m
    at (no n) =
        let same : a + i ≡ b = omega arith in
        let last : length (between a b text) ≡ i = long ∙ omega arith in
        get_or_at (between a b text) (byte_at text b) t 256 i last ∙ ap (λ m. byte_at text m) (sym same)

first_of : (v : List ℕ) (c : ℕ) → (s : List ℕ) × (v ++ c ∷ [] ≡ byte_at (v ++ c ∷ []) 0 ∷ s)
first_of [] c = ([], refl)
first_of (d ∷ v) c = (v ++ c ∷ [], refl)

-- what begins with u, v and c begins with u and the byte after it, and behind u with v and c
begins_first : (u v s w k : List ℕ) (b c : ℕ) → v ++ c ∷ [] ≡ b ∷ s → Begins ((u ++ v) ++ c ∷ []) (w ++ k) → Begins (u ++ b ∷ []) (w ++ k)
begins_first u v s w k b c e (t, q) = (
  s ++ t,
  append_assoc u (b ∷ []) (s ++ t) ∙ ap (λ r. u ++ (r ++ t)) (sym e) ∙ sym (append_assoc u (v ++ c ∷ []) t)
      ∙ ap (λ r. r ++ t) (sym (append_assoc u v (c ∷ []))) ∙ q,
)

begins_behind : (u v w k : List ℕ) (c : ℕ) → Begins ((u ++ v) ++ c ∷ []) (u ++ (w ++ k)) → Begins (v ++ c ∷ []) (w ++ k)
begins_behind u v w k c (t, q) = (
  t,
  append_cancel_left u ((v ++ c ∷ []) ++ t) (w ++ k)
      (sym (append_assoc u (v ++ c ∷ []) t) ∙ ap (λ r. r ++ t) (sym (append_assoc u v (c ∷ []))) ∙ q),
)

-- the texts of two parts, one behind the other
abbrev pub Pair : {A B : Type 0} → (A → Language) → (B → Language) → A × B → Language
Pair L N p = L p.0 then N p.1

module _ {A B : Type 0} (F G : Language) (L : A → Language) (N : B → Language) (follows : (y : B) (w k : List ℕ) → N y w → G k → F (w ++ k)) where
  -- the first part of whatever begins with u, v and c is u, and the second begins with v and c
  first_part : (u v : List ℕ) (b c : ℕ) (x : A) → Taken F L u b x → byte_at (v ++ c ∷ []) 0 ≡ b →
      (p : A × B) (w k : List ℕ) → (d : Pair L N p w) → G k → Begins ((u ++ v) ++ c ∷ []) (w ++ k) → (d.0 ≡ u) × (p.0 ≡ x) × Begins (v ++ c ∷ []) (d.1 ++ k)
  first_part u v b c x t e p w k d g h =
      let s = first_of v c in
      let whole : w ++ k ≡ d.0 ++ (d.1 ++ k) = ap (λ r. r ++ k) (sym d.4) ∙ append_assoc d.0 d.1 k in
      let h' : Begins ((u ++ v) ++ c ∷ []) (d.0 ++ (d.1 ++ k)) = (h.0, h.1 ∙ whole) in
      let o = t.only p.0 d.0 (d.1 ++ k) d.2 (follows p.1 d.1 k d.3 g) (begins_first u v s.0 d.0 (d.1 ++ k) b c (s.1 ∙ ap (λ f. f ∷ s.0) e) h') in
      (o.0, o.1, begins_behind u v d.1 k c (h'.0, h'.1 ∙ ap (λ r. r ++ (d.1 ++ k)) o.0))

  taken_then : (u v : List ℕ) (b c : ℕ) (x : A) (y : B) → Taken F L u b x → byte_at (v ++ c ∷ []) 0 ≡ b → Taken G N v c y → Taken G (Pair L N) (u ++ v) c (x, y)
  taken_then u v b c x y t e r = record {
    word = (u, v, t.word, r.word, refl);
    only = λ p w k d g h.
        let f = first_part u v b c x t e p w k d g h in
        let o = r.only p.1 d.1 k d.3 g f.2 in
        (sym d.4 ∙ ap (λ z. z ++ d.1) f.0 ∙ ap (λ z. u ++ z) o.0, λ i. (f.1 i, o.1 i));
  }

  stuck_behind : (u v : List ℕ) (b c : ℕ) (x : A) → Taken F L u b x → byte_at (v ++ c ∷ []) 0 ≡ b → Stuck G N v c → Stuck G (Pair L N) (u ++ v) c
  stuck_behind u v b c x t e r = record {
    goes = ((x, r.goes.0), r.goes.1, (u, v ++ r.goes.1, t.word, r.goes.2, sym (append_assoc u v r.goes.1)));
    none = λ p w k d g h.
        let f = first_part u v b c x t e p w k d g h in
        r.none p.1 d.1 k d.3 g f.2;
  }

  stuck_before : (u : List ℕ) (b : ℕ) → (y : B) (w : List ℕ) → N y w → Stuck F L u b → Stuck G (Pair L N) u b
  stuck_before u b y w n r = record {
    goes = ((r.goes.0, y), r.goes.1 ++ w, (u ++ r.goes.1, w, r.goes.2, n, append_assoc u r.goes.1 w));
    none = λ p v k d g h.
        let whole : v ++ k ≡ d.0 ++ (d.1 ++ k) = ap (λ r. r ++ k) (sym d.4) ∙ append_assoc d.0 d.1 k in
        r.none p.0 d.0 (d.1 ++ k) d.2 (follows p.1 d.1 k d.3 g) (h.0, h.1 ∙ whole);
  }

  -- the same at places of a text
  pub took_then : (text : List ℕ) (a b c : ℕ) (x : A) (y : B) → Took F L text a b x → Took G N text b c y → Took G (Pair L N) text a c (x, y)
  took_then text a b c x y t r = record {
    forward = omega (arith, t.forward, r.forward);
    within = r.within;
    taken = subst (λ u. Taken G (Pair L N) u (byte_at text c) (x, y)) (between_then text a b c t.forward r.forward)
        (taken_then (between a b text) (between b c text) (byte_at text b) (byte_at text c) x y t.taken (between_first text b c r.forward r.within) r.taken);
  }

  pub stops_behind : (text : List ℕ) (a b c : ℕ) (x : A) → Took F L text a b x → Stops G N text b c → Stops G (Pair L N) text a c
  stops_behind text a b c x t r = record {
    forward = omega (arith, t.forward, r.forward);
    within = r.within;
    stuck = subst (λ u. Stuck G (Pair L N) u (byte_at text c)) (between_then text a b c t.forward r.forward)
        (stuck_behind (between a b text) (between b c text) (byte_at text b) (byte_at text c) x t.taken (between_first text b c r.forward r.within) r.stuck);
  }

  pub stops_before : (text : List ℕ) (a b : ℕ) → (y : B) (w : List ℕ) → N y w → Stops F L text a b → Stops G (Pair L N) text a b
  stops_before text a b y w n r = record {
    forward = r.forward;
    within = r.within;
    stuck = stuck_before (between a b text) (byte_at text b) y w n r.stuck;
  }

-- one way to go on among several: the others differ from the text in a byte that was read
module _ {A B : Type 0} (F : Language) (L : A → Language) (N : B → Language) (make : A → B) (sound : (x : A) (w : List ℕ) → L x w → N (make x) w)
    (text : List ℕ) (a b : ℕ)
    (back : (y : B) (w k : List ℕ) → N y w → F k → ((i : ℕ) → a + i ≤ b → byte_at (w ++ k) i ≡ byte_at text (a + i)) → (x : A) × L x w × (make x ≡ y)) where
  pub took_as : (x : A) → Took F L text a b x → Took F N text a b (make x)
  took_as x t = record {
    forward = t.forward;
    within = t.within;
    taken = record {
      word = sound x (between a b text) t.taken.word;
      only = λ y w k n f h.
          let m = back y w k n f (λ i l. begins_byte text (w ++ k) a b i t.forward t.within l h) in
          let o = t.taken.only m.0 w k m.1 f h in
          (o.0, sym m.2 ∙ ap make o.1);
    };
  }

  pub stops_as : Stops F L text a b → Stops F N text a b
  stops_as t = record {
    forward = t.forward;
    within = t.within;
    stuck = record {
      goes = (make t.stuck.goes.0, t.stuck.goes.1, sound t.stuck.goes.0 (between a b text ++ t.stuck.goes.1) t.stuck.goes.2);
      none = λ y w k n f h.
          let m = back y w k n f (λ i l. begins_byte text (w ++ k) a b i t.forward t.within l h) in
          t.stuck.none m.0 w k m.1 f h;
    };
  }

-- the text is not refused at its first byte if something begins with it
pub stops_past : {A : Type 0} (F : Language) (L : A → Language) (text : List ℕ) (a b : ℕ) → Stops F L text a b →
    (y : A) (w k : List ℕ) → L y (byte_at text a ∷ w) → F k → a < b
stops_past F L text a b s y w k l f = at (dec_lt a b)
  where
    at : Dec (a < b) → a < b
    at (yes m) = m
    at (no n) =
        let same : b ≡ a = let m = s.forward in omega arith in
        let start : between a b text ++ byte_at text b ∷ [] ≡ byte_at text a ∷ [] =
        ap (λ m. between a m text ++ byte_at text m ∷ []) same ∙ ap (λ u. u ++ byte_at text a ∷ []) (between_none text a) in
        absurd (s.stuck.none y (byte_at text a ∷ w) k l f (w ++ k, ap (λ u. u ++ (w ++ k)) start))

-- where less may follow
pub took_under : {A : Type 0} (F G : Language) (L : A → Language) (text : List ℕ) (a b : ℕ) (x : A) → ((k : List ℕ) → G k → F k) → Took F L text a b x → Took G L text a b x
took_under F G L text a b x under t = record {
  forward = t.forward;
  within = t.within;
  taken = record { word = t.taken.word; only = λ y w k l g h. t.taken.only y w k l (under k g) h };
}

pub stops_under : {A : Type 0} (F G : Language) (L : A → Language) (text : List ℕ) (a b : ℕ) → ((k : List ℕ) → G k → F k) → Stops F L text a b → Stops G L text a b
stops_under F G L text a b under t = record {
  forward = t.forward;
  within = t.within;
  stuck = record { goes = t.stuck.goes; none = λ y w k l g h. t.stuck.none y w k l (under k g) h };
}

-- whatever is one of these and then goes on as may follow it, may follow what stands before
pub record Follows {B : Type 0} (F G : Language) (N : B → Language) : Type 0 where
  pub so : (y : B) (w k : List ℕ) → N y w → G k → F (w ++ k)

pub free : {B : Type 0} {G : Language} {N : B → Language} → Follows Any G N
free = record { so = λ _ _ _ _ _. tt }

-- what begins with a word that doesn't begin with a digit
pub by_word : {c : ℕ} {s : List ℕ} {Q : Language} (w k : List ℕ) → (Word (c ∷ s) tt then Q) w → digit c ≡ false → NoDigit (w ++ k)
by_word w k d plain = ap (λ z. digit (byte_at (z ++ k) 0)) (sym d.4 ∙ ap (λ z. z ++ d.1) d.2) ∙ plain

pub by_end : {G : Language} {c : ℕ} {s : List ℕ} → digit c ≡ false → Follows NoDigit G (Word (c ∷ s))
by_end plain = record { so = λ y w k e g. ap (λ z. digit (byte_at (z ++ k) 0)) e ∙ plain }

pub by_words : {B : Type 0} {G : Language} {c : ℕ} {s : List ℕ} (N : B → Language) → digit c ≡ false → Follows NoDigit G (Pair (Word (c ∷ s)) N)
by_words N plain = record { so = λ y w k d g. by_word w k d plain }

-- the same, with what antt can tell left out
module _ {A B : Type 0} {F G : Language} {L : A → Language} {N : B → Language} {text : List ℕ} {a b c : ℕ} {x : A} where
  pub then_took : {y : B} → Follows F G N → Took F L text a b x → Took G N text b c y → Took G (Pair L N) text a c (x, y)
  then_took follows t r = took_then F G L N follows.so text a b c x _ t r

  pub then_stops : Follows F G N → Took F L text a b x → Stops G N text b c → Stops G (Pair L N) text a c
  then_stops follows t r = stops_behind F G L N follows.so text a b c x t r

-- some text of a language: of a word, and of two languages, one behind the other
pub record HasOne {A : Type 0} (L : A → Language) : Type 0 where
  pub one : A
  pub text : List ℕ
  pub is : L one text

pub a_word : {s : List ℕ} → HasOne (Word s)
a_word {s} = record { one = tt; text = s; is = refl }

infixr 30 ◌also◌
pub ◌also◌ : {A B : Type 0} {L : A → Language} {N : B → Language} → HasOne L → HasOne N → HasOne (Pair L N)
p also q = record { one = (p.one, q.one); text = p.text ++ q.text; is = (p.text, q.text, p.is, q.is, refl) }

pub stops_then : {A B : Type 0} {F G : Language} {L : A → Language} {N : B → Language} {text : List ℕ} {a b : ℕ} → Follows F G N →
    HasOne N → Stops F L text a b → Stops G (Pair L N) text a b
stops_then {F = F} {G = G} {L = L} {N = N} {text = text} {a = a} {b = b} follows n r = stops_before F G L N follows.so text a b n.one n.text n.is r

-- what may follow a word may be anything, and so no digit too
pub calm_took : {A : Type 0} {L : A → Language} {text : List ℕ} {a b : ℕ} {x : A} → Took Any L text a b x → Took NoDigit L text a b x
calm_took {L = L} {text = text} {a = a} {b = b} {x = x} t = took_under Any NoDigit L text a b x (λ _ _. tt) t

pub calm_stops : {A : Type 0} {L : A → Language} {text : List ℕ} {a b : ℕ} → Stops Any L text a b → Stops NoDigit L text a b
calm_stops {L = L} {text = text} {a = a} {b = b} t = stops_under Any NoDigit L text a b (λ _ _. tt) t

-- a word that was read, and one whose first byte stands there, goes beyond that byte
pub word_long : {text : List ℕ} {a b c : ℕ} {s : List ℕ} → Took Any (Word (c ∷ s)) text a b tt → a + 1 ≤ b
word_long {text} {a} {b} t =
    let long = length-between text a b t.within in
    let word = ap length t.taken.word in
    omega arith

pub word_past : {text : List ℕ} {a b c : ℕ} {s : List ℕ} → byte_at text a ≡ c → Stops Any (Word (c ∷ s)) text a b → a + 1 ≤ b
word_past {text} {a} {b} {c} {s} e t =
    let past = stops_past Any (Word (c ∷ s)) text a b t tt s [] (ap (λ z. z ∷ s) e) tt in
    omega arith
