-- Bytes have one verdict. Assumes nothing.
use Rattle.std.proofs.Common.{◌≡◌, ℕ, zero, suc, ◌+◌, ◌<◌, ◌≤◌, Bool, true, false, List, [], ◌∷◌, ◌++◌, length, take, drop, sym, refl, ap, ◌∙◌, subst, ap₂, ⊎_elim, append_assoc, arith, length-drop, take-append-drop}
use Rattle.std.proofs.lemmas.List.{take-take}
use Rattle.std.proofs.lemmas.Bool.{cases_lt}
use Rattle.deals.specs.Contract.{Contract}
use Rattle.texts.specs.Text.{Text, GoesOn, RefusedAt}
use Rattle.texts.proofs.Verdicts.{one_verdict as text-verdicts}
use Rattle.texts.specs.Stages.{built_at}
use Rattle.texts.specs.declared.stages.Stage.{Stage}
use Rattle.mornings.specs.Verdict.{Fault, fault, Verdict, taken, refused, Reading, Field, Then, stops, goes, Done, Row, End, goes_on, ends}
use Rattle.mornings.specs.Judgement.{TextRead, too_long, no_text, not_built, a_contract, cut_off, cut_short, IsTooMany, first_fault, no_room, Limited, few, many, StartRead, DealRead, ChoiceRead, MorningRead}
use Rattle.mornings.specs.Laws.{OneVerdict}
use Rattle.mornings.specs.declared.Start.{Start}
use Rattle.mornings.proofs.Limits.{field_one, apart}

abbrev pub One : {A : Type 0} → Reading A → Type 0
One {A} R = (s : List ℕ) (i : ℕ) (v w : Verdict A) → R s i v → R s i w → v ≡ w

pub done_one : {A : Type 0} (a : A) → One (Done a)
done_one a s i v w h g = h ∙ sym g

pub then_one : {A B : Type 0} (R : Reading A) (S : A → Reading B) → One R → ((a : A) → One (S a)) → One (Then R S)
then_one R S f g s i _ _ (stops {e} h) (stops {e = d} k) = let q : refused e ≡ refused d = f s i _ _ h k in let r : e ≡ d = cc in ap refused r
then_one R S f g s i _ _ (stops {e} h) (goes {a} {j} k l) = absurd (apart (f s i (taken a j) (refused e) k h))
then_one R S f g s i _ _ (goes {a} {j} h l) (stops {e} k) = absurd (apart (f s i (taken a j) (refused e) h k))
then_one R S f g s i v w (goes {a} {j} h l) (goes {a = b} {j = k} m n) =
    let q : taken a j ≡ taken b k = f s i _ _ h m in
    let ab : b ≡ a = cc in
    let jk : k ≡ j = cc in
    g a s j v w l (subst (λ z. S z s j w) ab (subst (λ z. S b s z w) jk n))

pub row_one : {A : Type 0} (R : ℕ → Reading A) → ((c : ℕ) → One (R c)) → (n c : ℕ) → One (Row n R c)
row_one R f zero c = done_one []
row_one R f (suc n) c = then_one (R c) _ (f c) (λ x. then_one (Row n R (suc c)) _ (row_one R f n (suc c)) (λ xs. done_one (x ∷ xs)))

pub number_one : {A : Type 0} (n : ℕ) (means : ℕ → A) (P : A → Type 0) → One (Field n means P)
number_one n means P s i v w h g = field_one h g

pub end_one : One End
end_one s i _ _ (goes_on h) (goes_on g) = refl
end_one s i _ _ (goes_on h) (ends g) = let z : ⊥ = omega arith in absurd z
end_one s i _ _ (ends h) (goes_on g) = let z : ⊥ = omega arith in absurd z
end_one s i _ _ (ends h) (ends g) = refl

-- what begins as a text goes on so, and each beginning of it
pub goes_on_less : (w : List ℕ) (m n : ℕ) → m ≤ n → GoesOn (take n w) → GoesOn (take m w)
unfolding GoesOn
goes_on_less w m n le (x, t, h) =
    let e : take m w ++ (drop m (take n w) ++ t) ≡ take n w ++ t =
    sym (append_assoc (take m w) (drop m (take n w)) t) ∙ ap (λ z. (z ++ drop m (take n w)) ++ t) (sym (take-take m n w le)) ∙ ap (λ z. z ++ t) (take-append-drop m (take n w)) in
    (x, drop m (take n w) ++ t, subst (Text x) (sym e) h)

pub text_goes_on : (x : Contract) (w : List ℕ) (m : ℕ) → Text x w → GoesOn (take m w)
unfolding GoesOn
text_goes_on x w m h = (x, drop m w, subst (Text x) (sym (take-append-drop m w)) h)

-- a text is refused at one place
refused_less : (w : List ℕ) (p q : ℕ) → RefusedAt w p → RefusedAt w q → p < q → ⊥
refused_less w p q a b lt = a.no_more (omega (arith, b.within)) (goes_on_less w (suc p) q lt b.so_far)

pub refused_one : (w : List ℕ) (p q : ℕ) → RefusedAt w p → RefusedAt w q → p ≡ q
refused_one w p q a b =
    ⊎_elim (λ l. absurd (refused_less w p q a b l)) (λ h. ⊎_elim (λ l. absurd (refused_less w q p b a l)) (λ k. omega arith) (cases_lt q p)) (cases_lt p q)

cut_none : (w : List ℕ) (p : ℕ) → RefusedAt w p → p < length w → GoesOn w → ⊥
unfolding GoesOn
cut_none w p r lt (x, t, h) =
    r.no_more lt (x, drop (suc p) w ++ t, subst (Text x) (ap (λ z. z ++ t) (sym (take-append-drop (suc p) w)) ∙ append_assoc (take (suc p) w) (drop (suc p) w) t) h)

clash : {A : Type 0} (a b : ℕ) → a ≤ b → b < a → A
clash a b h g = let z : ⊥ = omega arith in absurd z

pub not_both : (b : Bool) → b ≡ true → b ≡ false → ⊥
not_both b p q = let z : true ≡ false = sym p ∙ q in grind arith

pub text_one : (stage : Stage) (st : Start) (n : ℕ) → One (TextRead stage st n)
text_one stage st n s i _ _ (too_long _) (too_long _) = refl
text_one stage st n s i _ _ (too_long h) (no_text g _ _) = clash n 8192 g h
text_one stage st n s i _ _ (too_long h) (not_built g _ _ _) = clash n 8192 g h
text_one stage st n s i _ _ (too_long h) (a_contract _ g _ _ _) = clash n 8192 g h
text_one stage st n s i _ _ (too_long h) (cut_off g _ _ _) = clash n 8192 g h
text_one stage st n s i _ _ (too_long h) (cut_short g _ _) = clash n 8192 g h
text_one stage st n s i _ _ (no_text g _ _) (too_long h) = clash n 8192 g h
text_one stage st n s i _ _ (no_text {k} {p} _ _ r) (no_text {k = l} {p = q} _ _ t) = let e = text-verdicts.1 _ _ _ k l p q r t in ap₂ (λ m o. refused (fault m (i + o))) e.0 e.1
text_one stage st n s i _ _ (no_text {k} {p} _ _ r) (not_built {x} _ _ t _) = absurd (text-verdicts.2 _ _ _ x k p t r)
text_one stage st n s i _ _ (no_text {k} {p} _ _ r) (a_contract x _ _ t _) = absurd (text-verdicts.2 _ _ _ x k p t r)
text_one stage st n s i _ _ (no_text _ h _) (cut_off _ g _ _) = clash (i + n) (length s) h g
text_one stage st n s i _ _ (no_text _ h _) (cut_short _ g _) = clash (i + n) (length s) h g
text_one stage st n s i _ _ (not_built g _ _ _) (too_long h) = clash n 8192 g h
text_one stage st n s i _ _ (not_built {x} _ _ t _) (no_text {k} {p} _ _ r) = absurd (text-verdicts.2 _ _ _ x k p t r)
text_one stage st n s i _ _ (not_built _ _ _ _) (not_built _ _ _ _) = refl
text_one stage st n s i _ _ (not_built {x} _ _ t f) (a_contract y _ _ u b) = absurd (not_both (built_at stage x) (ap (built_at stage) (sym (text-verdicts.0 _ _ _ x y t u)) ∙ b) f)
text_one stage st n s i _ _ (not_built _ h _ _) (cut_off _ g _ _) = clash (i + n) (length s) h g
text_one stage st n s i _ _ (not_built _ h _ _) (cut_short _ g _) = clash (i + n) (length s) h g
text_one stage st n s i _ _ (a_contract _ g _ _ _) (too_long h) = clash n 8192 g h
text_one stage st n s i _ _ (a_contract x _ _ t _) (no_text {k} {p} _ _ r) = absurd (text-verdicts.2 _ _ _ x k p t r)
text_one stage st n s i _ _ (a_contract y _ _ u b) (not_built {x} _ _ t f) = absurd (not_both (built_at stage x) (ap (built_at stage) (sym (text-verdicts.0 _ _ _ x y t u)) ∙ b) f)
text_one stage st n s i _ _ (a_contract x _ _ t _) (a_contract y _ _ u _) = ap (λ z. taken z (i + n)) (sym (text-verdicts.0 _ _ _ x y t u))
text_one stage st n s i _ _ (a_contract _ _ h _ _) (cut_off _ g _ _) = clash (i + n) (length s) h g
text_one stage st n s i _ _ (a_contract _ _ h _ _) (cut_short _ g _) = clash (i + n) (length s) h g
text_one stage st n s i _ _ (cut_off g _ _ _) (too_long h) = clash n 8192 g h
text_one stage st n s i _ _ (cut_off _ g _ _) (no_text _ h _) = clash (i + n) (length s) h g
text_one stage st n s i _ _ (cut_off _ g _ _) (not_built _ h _ _) = clash (i + n) (length s) h g
text_one stage st n s i _ _ (cut_off _ g _ _) (a_contract _ _ h _ _) = clash (i + n) (length s) h g
text_one stage st n s i _ _ (cut_off {p} _ _ r _) (cut_off {p = q} _ _ t _) = ap (λ k. refused (fault 1 (i + k))) (refused_one _ p q r t)
text_one stage st n s i _ _ (cut_off {p} _ _ r lt) (cut_short _ _ g) = absurd (cut_none (drop i s) p r (omega (arith, length-drop i s)) g)
text_one stage st n s i _ _ (cut_short g _ _) (too_long h) = clash n 8192 g h
text_one stage st n s i _ _ (cut_short _ g _) (no_text _ h _) = clash (i + n) (length s) h g
text_one stage st n s i _ _ (cut_short _ g _) (not_built _ h _ _) = clash (i + n) (length s) h g
text_one stage st n s i _ _ (cut_short _ g _) (a_contract _ _ h _ _) = clash (i + n) (length s) h g
text_one stage st n s i _ _ (cut_short _ _ g) (cut_off {p} _ _ r lt) = absurd (cut_none (drop i s) p r (omega (arith, length-drop i s)) g)
text_one stage st n s i _ _ (cut_short _ _ _) (cut_short _ _ _) = refl

too_many_one : {B : Type 0} (First : Reading B) → One First → (s : List ℕ) (i : ℕ) (d e : Fault) → IsTooMany First s i d → IsTooMany First s i e → d ≡ e
too_many_one First f s i d e (first_fault h p) (first_fault g q) = let r : refused d ≡ refused e = f s i _ _ h g in cc
too_many_one First f s i d _ (first_fault h p) (no_room n) = absurd (n d h p)
too_many_one First f s i _ e (no_room n) (first_fault h p) = absurd (n e h p)
too_many_one First f s i _ _ (no_room n) (no_room m) = refl

pub limited_one : {A B : Type 0} (c : ℕ) (First : Reading B) (R : Reading A) → One First → One R → One (Limited c First R)
limited_one c First R f g s i v w (few _ h) (few _ k) = g s i v w h k
limited_one c First R f g s i _ _ (few a _) (many b _) = let z : ⊥ = omega arith in absurd z
limited_one c First R f g s i _ _ (many b _) (few a _) = let z : ⊥ = omega arith in absurd z
limited_one c First R f g s i _ _ (many {e = d} _ h) (many {e = e} _ k) = ap refused (too_many_one First f s i d e h k)

start_one : One StartRead
start_one =
    then_one _ _ (number_one 2 _ _) (λ houses. then_one _ _ (number_one 2 _ _) (λ rates. then_one _ _ (number_one 1 _ _) (λ currencies. then_one _ _ end_one (λ _. done_one _))))

deal_one : (stage : Stage) (st : Start) (day c : ℕ) → One (DealRead stage st day c)
deal_one stage st day c =
    limited_one c _ _ (number_one 2 _ _)
    (then_one _ _ (number_one 2 _ _) (λ holder. then_one _ _ (number_one 2 _ _) (λ other. then_one _ _ (number_one 4 _ _) (λ from. then_one _ _ (number_one 2 _ _) (λ n. then_one _ _ (text_one stage st n) (λ x. done_one _))))))

choice_one : One ChoiceRead
choice_one =
    then_one _ _ (number_one 4 _ _) (λ deal. then_one _ _ (number_one 1 _ _) (λ n. then_one _ _ (row_one _ (λ _. number_one 1 _ _) n 0) (λ way. done_one _)))

morning_one : (stage : Stage) (st : Start) (day so_far : ℕ) → One (MorningRead stage st day so_far)
morning_one stage st day so_far =
    limited_one day _ _ (number_one 2 _ _)
    (then_one _ _ (number_one 2 _ _)
    (λ n. then_one _ _ (row_one _ (deal_one stage st day) n so_far)
    (λ deals. then_one _ _ (row_one _ (λ _. number_one 8 _ _) st.rates 0)
    (λ rates. then_one _ _ (number_one 2 _ _) (λ m. then_one _ _ (row_one _ (λ _. choice_one) m 0) (λ choices. then_one _ _ end_one (λ _. done_one _)))))))

pub one_verdict : OneVerdict
one_verdict = (λ s v w. start_one s 0 v w, λ stage st day so_far s v w. morning_one stage st day so_far s 0 v w)
