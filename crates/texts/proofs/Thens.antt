-- Languages one behind the other, in other brackets. Assumes nothing.
use Rattle.std.proofs.Common.{ℕ, List, [], ◌∷◌, ◌++◌, sym, refl, ap, ◌∙◌, append_assoc}
use Rattle.texts.specs.Text.{Language, ◌then◌}
use Rattle.texts.specs.Reading.{Word}

pub then_right : {P Q R : Language} (w : List ℕ) → ((P then Q) then R) w → (P then Q then R) w
then_right w (a, b, (c, d, p, q, e), r, f) = (c, d ++ b, p, (d, b, q, r, refl), sym (append_assoc c d b) ∙ ap (λ z. z ++ b) e ∙ f)

pub then_left : {P Q R : Language} (w : List ℕ) → (P then Q then R) w → ((P then Q) then R) w
then_left w (a, b, p, (c, d, q, r, e), f) = (a ++ c, d, (a, c, p, q, refl), r, append_assoc a c d ∙ ap (λ z. a ++ z) e ∙ f)

pub then_map : {P Q P' Q' : Language} → ((w : List ℕ) → P w → P' w) → ((w : List ℕ) → Q w → Q' w) → (w : List ℕ) → (P then Q) w → (P' then Q') w
then_map f g w (a, b, p, q, e) = (a, b, f a p, g b q, e)

-- the first byte of a word by itself
pub cut : (c : ℕ) (s : List ℕ) (R : Language) (w : List ℕ) → (Word (c ∷ s) tt then R) w → (Word (c ∷ []) tt then Word s tt then R) w
cut c s R w (a, b, p, r, e) = (c ∷ [], s ++ b, refl, (s, b, refl, r, refl), ap (λ z. z ++ b) (sym p) ∙ e)

pub glue : (c : ℕ) (s : List ℕ) (R : Language) (w : List ℕ) → (Word (c ∷ []) tt then Word s tt then R) w → (Word (c ∷ s) tt then R) w
glue c s R w (a, b, p, (d, b', q, r, f), e) = (c ∷ s, b', refl, r, ap (λ z. c ∷ (z ++ b')) (sym q) ∙ ap (λ z. c ∷ z) f ∙ ap (λ z. z ++ b) (sym p) ∙ e)

-- what ends a part, taken to it, and left to what follows
pub with_end : (E R : Language) (c : ℕ) (s w : List ℕ) → (E then Word (c ∷ s) tt then R) w → ((E then Word (c ∷ []) tt) then Word s tt then R) w
with_end E R c s w h = then_left w (then_map (λ _ q. q) (cut c s R) w h)

pub without_end : (E R : Language) (c : ℕ) (s w : List ℕ) → ((E then Word (c ∷ []) tt) then Word s tt then R) w → (E then Word (c ∷ s) tt then R) w
without_end E R c s w h = then_map (λ _ q. q) (glue c s R) w (then_right w h)

-- two parts in brackets: with what ends each, and without
module _ (P Q : Language) (open' s : List ℕ) (c end : ℕ) where
  abbrev pub Spelt : Language
  Spelt = (Word open' tt then P then Word (c ∷ s) tt then Q then Word (41 ∷ []) tt) then Word (end ∷ []) tt

  abbrev pub Read : Language
  Read = Word open' tt then (P then Word (c ∷ []) tt) then Word s tt then (Q then Word (41 ∷ []) tt) then Word (end ∷ []) tt

  pub read_so : (w : List ℕ) → Spelt w → Read w
  read_so w d =
      then_map (λ _ h. h)
      (λ v h. then_left v (then_map (λ _ g. g) (λ u g. cut c s ((Q then Word (41 ∷ []) tt) then Word (end ∷ []) tt) u (then_right u g)) v (then_right v h))) w (then_right w d)

  pub spelt_so : (w : List ℕ) → Read w → Spelt w
  spelt_so w d =
      then_left w
      (then_map (λ _ h. h)
      (λ v h. then_left v (then_map (λ _ g. g) (λ u g. then_left u (glue c s ((Q then Word (41 ∷ []) tt) then Word (end ∷ []) tt) u g)) v (then_right v h))) w d)
