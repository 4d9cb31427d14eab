-- Bytes are taken for one thing at most. Assumes nothing.
use Rattle.std.proofs.Common.{◌≡◌, ℕ, zero, suc, ◌+◌, List, [], ◌∷◌, sym, ap, ◌∙◌, subst}
use Rattle.texts.proofs.OneContract.{one_at_most}
use Rattle.texts.specs.declared.stages.Stage.{Stage}
use Rattle.mornings.specs.Verdict.{taken, Reading, Field, Then, goes, Done, Row, End}
use Rattle.mornings.specs.Judgement.{TextRead, a_contract, Limited, few, DealRead, ChoiceRead, MorningRead}
use Rattle.mornings.specs.declared.Start.{Start}
use Rattle.mornings.proofs.Limits.{field_one}
use Rattle.mornings.proofs.Verdicts.{end_one}

abbrev Sole : {A : Type 0} → Reading A → Type 0
Sole {A} R = (s : List ℕ) (i : ℕ) (a b : A) (j k : ℕ) → R s i (taken a j) → R s i (taken b k) → taken a j ≡ taken b k

done_sole : {A : Type 0} (a : A) → Sole (Done a)
done_sole a s i b c j k h g = h ∙ sym g

field_sole : {A : Type 0} (n : ℕ) (means : ℕ → A) (P : A → Type 0) → Sole (Field n means P)
field_sole n means P s i a b j k h g = field_one h g

end_sole : Sole End
end_sole s i a b j k h g = end_one s i (taken a j) (taken b k) h g

then_sole : {A B : Type 0} (R : Reading A) (S : A → Reading B) → Sole R → ((a : A) → Sole (S a)) → Sole (Then R S)
then_sole R S f g s i b c j k (goes {a = x} {j = l} h r) (goes {a = y} {j = m} h' r') =
    let q : taken x l ≡ taken y m = f s i x y l m h h' in
    let xy : y ≡ x = cc in
    let lm : m ≡ l = cc in
    g x s l b c j k r (subst (λ z. S z s l (taken c k)) xy (subst (λ z. S y s z (taken c k)) lm r'))

row_sole : {A : Type 0} (R : ℕ → Reading A) → ((c : ℕ) → Sole (R c)) → (n c : ℕ) → Sole (Row n R c)
row_sole R f zero c = done_sole []
row_sole R f (suc n) c = then_sole (R c) _ (f c) (λ x. then_sole (Row n R (suc c)) _ (row_sole R f n (suc c)) (λ xs. done_sole (x ∷ xs)))

text_sole : (stage : Stage) (st : Start) (n : ℕ) → Sole (TextRead stage st n)
text_sole stage st n s i _ _ _ _ (a_contract x _ _ t _) (a_contract y _ _ u _) = ap (λ z. taken z (i + n)) (one_at_most _ y x u.text_of t.text_of)

limited_sole : {A B : Type 0} (c : ℕ) (First : Reading B) (R : Reading A) → Sole R → Sole (Limited c First R)
limited_sole c First R f s i a b j k (few _ h) (few _ g) = f s i a b j k h g

deal_sole : (stage : Stage) (st : Start) (day c : ℕ) → Sole (DealRead stage st day c)
deal_sole stage st day c =
    limited_sole c _ _
    (then_sole _ _ (field_sole 2 _ _) (λ holder. then_sole _ _ (field_sole 2 _ _) (λ other. then_sole _ _ (field_sole 4 _ _) (λ from. then_sole _ _ (field_sole 2 _ _) (λ n. then_sole _ _ (text_sole stage st n) (λ x. done_sole _))))))

choice_sole : Sole ChoiceRead
choice_sole =
    then_sole _ _ (field_sole 4 _ _) (λ deal. then_sole _ _ (field_sole 1 _ _) (λ n. then_sole _ _ (row_sole _ (λ _. field_sole 1 _ _) n 0) (λ way. done_sole _)))

pub morning_sole : (stage : Stage) (st : Start) (day so_far : ℕ) → Sole (MorningRead stage st day so_far)
morning_sole stage st day so_far =
    limited_sole day _ _
    (then_sole _ _ (field_sole 2 _ _)
    (λ n. then_sole _ _ (row_sole _ (deal_sole stage st day) n so_far)
    (λ deals. then_sole _ _ (row_sole _ (λ _. field_sole 8 _ _) st.rates 0)
    (λ rates. then_sole _ _ (field_sole 2 _ _) (λ m. then_sole _ _ (row_sole _ (λ _. choice_sole) m 0) (λ choices. then_sole _ _ end_sole (λ _. done_sole _)))))))
