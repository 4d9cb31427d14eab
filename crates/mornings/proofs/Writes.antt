-- What is written of parts in bounds is read as them. Assumes nothing.
use Rattle.std.proofs.Common.{◌≡◌, ℕ, suc, ◌+◌, ◌^◌, ◌<◌, ◌≤◌, List, [], ◌∷◌, ◌++◌, length, take, sym, refl, ap, ◌∙◌, subst, append_assoc, arith}
use Rattle.std.proofs.lemmas.List.{length-append, take_at, drop_at, append-nil}
use Rattle.std.specs.List.{AllByRecursion}
use Rattle.octets.specs.Octets.{number_of, octets_of, word}
use Rattle.octets.proofs.Words.{length_octets, number_octets}
use Rattle.mornings.specs.Verdict.{taken, Reading, Field, Then, goes, Done, Row}
use Rattle.mornings.specs.Written.{Each, none, more, in_a_row}
use Rattle.mornings.proofs.Fields.{is_right}

-- wherever bs stand, they are read as a
abbrev pub Writes : {A : Type 0} → Reading A → A → List ℕ → Type 0
Writes R a bs = (p t : List ℕ) → R (p ++ (bs ++ t)) (length p) (taken a (length p + length bs))

-- where bs stand at the end, they are read as a
abbrev pub Closes : {A : Type 0} → Reading A → A → List ℕ → Type 0
Closes R a bs = (p : List ℕ) → R (p ++ bs) (length p) (taken a (length (p ++ bs)))

pub word_written : (n v : ℕ) (p t : List ℕ) → v < 256 ^ n → word n (p ++ (octets_of n v ++ t)) (length p) ≡ v
unfolding word
word_written n v p t small =
    ap (λ z. number_of (take n z)) (drop_at p (octets_of n v ++ t) (length p) refl) ∙ ap number_of (take_at (octets_of n v) t n (length_octets n v)) ∙ number_octets n v small

pub field_writes : {A : Type 0} (n : ℕ) (means : ℕ → A) (P : A → Type 0) (a : A) (v : ℕ) → a ≡ means v → v < 256 ^ n → P a → Writes (Field n means P) a (octets_of n v)
field_writes n means P a v e small h p t =
    let s = p ++ (octets_of n v ++ t) in
    let same : a ≡ means (word n s (length p)) = e ∙ ap means (sym (word_written n v p t small)) in
    let long = length_octets n v in
    let room : length p + n ≤ length s = omega (arith, length-append p (octets_of n v ++ t), length-append (octets_of n v) t) in
    subst (λ k. Field n means P s (length p) (taken a (length p + k))) (sym long) (is_right n means P s (length p) a same room h)

pub number_writes : (n : ℕ) (P : ℕ → Type 0) (v : ℕ) → v < 256 ^ n → P v → Writes (Field n (λ a. a) P) v (octets_of n v)
number_writes n P v small h = field_writes n (λ a. a) P v v refl small h

module _ {A B : Type 0} (R : Reading A) (S : A → Reading B) (a : A) (b : B) (bs : List ℕ) (first : Writes R a bs) where
  move : (p cs t : List ℕ) (v : ℕ) → S a ((p ++ bs) ++ (cs ++ t)) (length (p ++ bs)) (taken b v) → S a (p ++ ((bs ++ cs) ++ t)) (length p + length bs) (taken b v)
  move p cs t v h =
      let lists : (p ++ bs) ++ (cs ++ t) ≡ p ++ ((bs ++ cs) ++ t) = append_assoc p bs (cs ++ t) ∙ ap (λ z. p ++ z) (sym (append_assoc bs cs t)) in
      subst (λ z. S a z (length p + length bs) (taken b v)) lists (subst (λ k. S a ((p ++ bs) ++ (cs ++ t)) k (taken b v)) (length-append p bs) h)

  pub then_writes : (cs : List ℕ) → Writes (S a) b cs → Writes (Then R S) b (bs ++ cs)
  then_writes cs second p t =
      let ends_at : length (p ++ bs) + length cs ≡ length p + length (bs ++ cs) = omega (arith, length-append p bs, length-append bs cs) in
      goes (subst (λ z. R (p ++ z) (length p) (taken a (length p + length bs))) (sym (append_assoc bs cs t)) (first p (cs ++ t)))
      (move p cs t (length p + length (bs ++ cs)) (subst (λ k. S a ((p ++ bs) ++ (cs ++ t)) (length (p ++ bs)) (taken b k)) ends_at (second (p ++ bs) t)))

  pub then_last : ((s : List ℕ) (j : ℕ) → S a s j (taken b j)) → Writes (Then R S) b bs
  then_last second p t = goes (first p t) (second (p ++ (bs ++ t)) (length p + length bs))

  pub then_closes : (cs : List ℕ) → Closes (S a) b cs → Closes (Then R S) b (bs ++ cs)
  then_closes cs second p =
      let lists : (p ++ bs) ++ cs ≡ p ++ (bs ++ cs) = append_assoc p bs cs in
      goes (first p cs)
      (subst (λ z. S a z (length p + length bs) (taken b (length z))) lists (subst (λ k. S a ((p ++ bs) ++ cs) k (taken b (length ((p ++ bs) ++ cs)))) (length-append p bs) (second (p ++ bs))))

pub done_writes : {A : Type 0} (a : A) → Writes (Done a) a []
done_writes a p t = ap (taken a) (omega arith)

-- the last part before the end
pub end_closes : {A B : Type 0} (R : Reading A) (S : A → Reading B) (a : A) (b : B) (bs : List ℕ) → Writes R a bs → ((s : List ℕ) (j : ℕ) → length s ≤ j → S a s j (taken b (length s))) → Closes (Then R S) b bs
end_closes R S a b bs first last p =
    let lists : p ++ (bs ++ []) ≡ p ++ bs = ap (λ z. p ++ z) (append-nil bs) in
    goes (subst (λ z. R z (length p) (taken a (length p + length bs))) lists (first p [])) (last (p ++ bs) (length p + length bs) (omega (arith, length-append p bs)))

-- parts in a row
pub row_writes : {A : Type 0} (R : ℕ → Reading A) (W : A → List ℕ → Type 0) (most : ℕ) → ((c : ℕ) (a : A) (bs : List ℕ) → c < most → W a bs → Writes (R c) a bs) → (xs : List A) (pieces : List (List ℕ)) (c : ℕ) → c + length xs ≤ most → Each W xs pieces → Writes (Row (length xs) R c) xs (in_a_row pieces)
row_writes R W most each _ _ c h none = done_writes []
row_writes R W most each _ _ c h (more {a} {rest} {bs} {pieces} w ws) =
    then_writes (R c) (λ x. Then (Row (length rest) R (suc c)) (λ xs. Done (x ∷ xs))) a (a ∷ rest) bs (each c a bs (omega arith) w) (in_a_row pieces)
    (then_last (Row (length rest) R (suc c)) (λ xs. Done (a ∷ xs)) rest (a ∷ rest) (in_a_row pieces) (row_writes R W most each rest pieces (suc c) (omega arith) ws) (λ s j. refl))

-- each of some parts is in bounds too
pub row_with : {A : Type 0} (P : A → Type 0) (W : A → List ℕ → Type 0) (xs : List A) (pieces : List (List ℕ)) → AllByRecursion P xs → Each W xs pieces → Each (λ a cs. P a × W a cs) xs pieces
row_with P W _ _ ps none = none
row_with P W _ _ ps (more {a} {rest} {bs} {pieces} w ws) = more (ps.0, w) (row_with P W rest pieces ps.1 ws)

pub row_append : (xs ys : List (List ℕ)) → in_a_row (xs ++ ys) ≡ in_a_row xs ++ in_a_row ys
row_append [] ys = refl
row_append (x ∷ xs) ys = ap (λ z. x ++ z) (row_append xs ys) ∙ sym (append_assoc x (in_a_row xs) (in_a_row ys))
