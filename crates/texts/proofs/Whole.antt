-- From what the reader of a contract promises to what a text is refused for. Assumes nothing.
use Rattle.std.proofs.Common.{◌≡◌, ℕ, suc, ◌-◌, ◌<◌, ◌≤◌, List, [], ◌∷◌, ◌++◌, length, take, drop, sym, refl, ap, ◌∙◌, subst, append_assoc, arith, length-append, take-append-drop, take-suc}
use native.Mathlib.Decide.{dec_lt}
use Rattle.std.specs.List.{between}
use Rattle.std.proofs.lemmas.List.{take_all, get_or_past, length-take-le, append-nil}
use Rattle.deals.specs.Contract.{Contract}
use Rattle.texts.specs.Text.{Text, GoesOn, RefusedAt}
use Rattle.texts.specs.Reading.{byte_at, Begins, NoDigit, Took, Stops}

module _ (text : List ℕ) (p : ℕ) (h : p ≤ length text) where
  front : between 0 p text ≡ take p text
  front = let whole : p - 0 ≡ p = omega arith in ap (λ n. take n text) whole

  -- the text and a byte that is none begins with what was read and the byte behind it
  pub begins_text : Begins (between 0 p text ++ byte_at text p ∷ []) (text ++ 256 ∷ [])
  begins_text = at (dec_lt p (length text))
    where
      at : Dec (p < length text) → Begins (between 0 p text ++ byte_at text p ∷ []) (text ++ 256 ∷ [])
      at (yes l) = (
        drop (suc p) text ++ 256 ∷ [],
        ap (λ z. (z ++ byte_at text p ∷ []) ++ (drop (suc p) text ++ 256 ∷ [])) front
            ∙ ap (λ z. z ++ (drop (suc p) text ++ 256 ∷ [])) (sym (take-suc text p 256 l))
            ∙ sym (append_assoc (take (suc p) text) (drop (suc p) text) (256 ∷ [])) ∙ ap (λ z. z ++ 256 ∷ []) (take-append-drop (suc p) text),
      )
      at (no n) =
          let past : length text ≤ p = omega arith in
          ([], append-nil (between 0 p text ++ byte_at text p ∷ []) ∙ ap (λ z. z ++ byte_at text p ∷ []) (front ∙ take_all p text past) ∙ ap (λ b. text ++ b ∷ []) (get_or_past text p 256 past))

  begins_more : (t : List ℕ) → p < length text → Begins (between 0 p text ++ byte_at text p ∷ []) ((take (suc p) text ++ t) ++ 256 ∷ [])
  begins_more t l = (
    t ++ 256 ∷ [],
    ap (λ z. (z ++ byte_at text p ∷ []) ++ (t ++ 256 ∷ [])) front
        ∙ ap (λ z. z ++ (t ++ 256 ∷ [])) (sym (take-suc text p 256 l)) ∙ sym (append_assoc (take (suc p) text) t (256 ∷ [])),
  )

-- refused where the reader stops
pub refused_where : (text : List ℕ) (p : ℕ) → Stops NoDigit Text text 0 p → RefusedAt text p
unfolding GoesOn
refused_where text p s = record {
  within = s.within;
  so_far = (s.stuck.goes.0, s.stuck.goes.1, subst (λ u. Text s.stuck.goes.0 (u ++ s.stuck.goes.1)) (front text p s.within) s.stuck.goes.2);
  no_more = λ l g. s.stuck.none g.0 (take (suc p) text ++ g.1) (256 ∷ []) g.2 refl (begins_more text p s.within g.1 l);
  none = λ x t. s.stuck.none x text (256 ∷ []) t refl (begins_text text p s.within);
}

-- refused behind a contract where the text goes on
pub refused_behind : (text : List ℕ) (p : ℕ) (x : Contract) → Took NoDigit Text text 0 p x → p < length text → RefusedAt text p
unfolding GoesOn
refused_behind text p x s l = record {
  within = s.within;
  so_far = (x, [], subst (Text x) (front text p s.within ∙ sym (append-nil (take p text))) s.taken.word);
  no_more = λ _ g.
      let o = s.taken.only g.0 (take (suc p) text ++ g.1) (256 ∷ []) g.2 refl (begins_more text p s.within g.1 l) in
      let long = length-append (take (suc p) text) g.1 in
      let first = length-take-le (suc p) text l in
      let all = ap length (o.0 ∙ front text p s.within) ∙ length-take-le p text s.within in
      omega arith;
  none = λ y t.
      let o = s.taken.only y text (256 ∷ []) t refl (begins_text text p s.within) in
      let all = ap length (o.0 ∙ front text p s.within) ∙ length-take-le p text s.within in
      omega arith;
}

-- read to its end
pub read_whole : (text : List ℕ) (p : ℕ) (x : Contract) → Took NoDigit Text text 0 p x → length text ≤ p → Text x text × ((y : Contract) → Text y text → y ≡ x)
read_whole text p x s l = (
  subst (Text x) (front text p s.within ∙ take_all p text l) s.taken.word,
  λ y t. (s.taken.only y text (256 ∷ []) t refl (begins_text text p s.within)).1,
)
