-- A fault does not depend on the bytes behind it. Assumes nothing.
use Rattle.std.proofs.Common.{◌≡◌, ℕ, zero, suc, ◌+◌, ◌<◌, ◌≤◌, List, [], ◌∷◌, length, take, drop, sym, refl, ap, ◌∙◌, subst, inl, inr, ⊎_elim, arith, length-drop, length-take}
use Rattle.std.proofs.lemmas.List.{take-take, drop-take}
use Rattle.std.proofs.lemmas.Bool.{cases_lt}
use Rattle.octets.specs.Octets.{number_of, word, field}
use Rattle.texts.specs.Text.{GoesOn, RefusedAt}
use Rattle.texts.specs.Bounds.{TextTaken, no_contract}
use Rattle.texts.specs.Stages.{built_at}
use Rattle.texts.specs.declared.stages.Stage.{Stage}
use Rattle.mornings.specs.Verdict.{Fault, fault, taken, refused, Reading, Field, cut, wrong, right, Then, stops, goes, Done, Row, End, goes_on}
use Rattle.mornings.specs.Judgement.{TextRead, too_long, no_text, not_built, a_contract, cut_off, cut_short, first_fault, no_room, Limited, few, many, StartRead, DealFields, DealRead, RateRead, StepRead, ChoiceRead, MorningFields, MorningRead}
use Rattle.mornings.specs.Laws.{Told, Plain, FrontToBack}
use Rattle.mornings.specs.declared.Start.{Start}
use Rattle.mornings.proofs.Fields.{is_right, is_wrong}
use Rattle.mornings.proofs.Limits.{apart}
use Rattle.mornings.proofs.Texts.{is_refused_at, one_or_two}
use Rattle.mornings.proofs.Verdicts.{text_goes_on, not_both}

abbrev Agree : ℕ → List ℕ → List ℕ → Type 0
Agree n s t = take n s ≡ take n t

agree_less : (m n : ℕ) (s t : List ℕ) → m ≤ n → Agree n s t → Agree m s t
agree_less m n s t le h = sym (take-take m n s le) ∙ ap (take m) h ∙ take-take m n t le

agree_length : (n : ℕ) (s t : List ℕ) → n ≤ length s → Agree n s t → n ≤ length t
agree_length n s t le h = omega (arith, length-take n s, length-take n t, ap length h)

agree_field : (k i : ℕ) (s t : List ℕ) → Agree (i + k) s t → field k s i ≡ field k t i
agree_field k i s t h = sym (drop-take i k s) ∙ ap (drop i) h ∙ drop-take i k t

agree_word : (k i : ℕ) (s t : List ℕ) → Agree (i + k) s t → word k s i ≡ word k t i
unfolding word
agree_word k i s t h = ap number_of (agree_field k i s t h)

-- a part that is taken lies within the bytes, and is taken in all bytes that agree up to its end
abbrev Steady : {A : Type 0} → Reading A → Type 0
Steady {A} R = (s : List ℕ) (i : ℕ) (a : A) (j : ℕ) → i ≤ length s → R s i (taken a j) → (i ≤ j) × (j ≤ length s) × ((t : List ℕ) → Agree j s t → R t i (taken a j))

-- a fault lies behind the beginning of its part, and where it is plain it is told by the bytes up to it
abbrev Early : {A : Type 0} → (Fault → List ℕ → Type 0) → Reading A → Type 0
Early Q R = (s : List ℕ) (i : ℕ) (e : Fault) → i ≤ length s → R s i (refused e) → (i ≤ e.place) × (Q e s → Told s e (λ t. R t i (refused e)))

-- told for one part, and so for a whole that it belongs to
told_as : (s : List ℕ) (e : Fault) (A B : List ℕ → Type 0) → ((t : List ℕ) (n : ℕ) → e.place ≤ n → Agree n s t → A t → B t) → Told s e A → Told s e B
told_as s e A B f w = record {
  width = w.width;
  few = w.few;
  one_of_a_text = w.one_of_a_text;
  within = w.within;
  same = λ t g. f t (e.place + w.width) (omega arith) g (w.same t g);
}

module _ {A : Type 0} (n : ℕ) (means : ℕ → A) (P : A → Type 0) where
  field_steady : Steady (Field n means P)
  field_steady s i _ _ le (right h p) =
      (omega arith, h, λ t g. is_right n means P t i (means (word n s i)) (ap means (agree_word n i s t g)) (agree_length (i + n) s t h g) p)

  -- what is no value in some bytes is none in others that agree
  wrong_told : (s : List ℕ) (i : ℕ) → n ≤ 8 → i + n ≤ length s → (P (means (word n s i)) → ⊥) → Told s (fault 3 i) (λ t. Field n means P t i (refused (fault 3 i)))
  wrong_told s i small h w = record {
    width = n;
    few = small;
    one_of_a_text = λ e. let z : ⊥ = omega arith in absurd z;
    within = h;
    same = λ t g. is_wrong n means P t i (means (word n s i)) (ap means (agree_word n i s t g)) (agree_length (i + n) s t h g) w;
  }

done_steady : {A : Type 0} (a : A) → Steady (Done a)
done_steady a s i b j le e = let z : j ≡ i = cc in (omega arith, omega arith, λ t _. e)

module _ {A B : Type 0} (R : Reading A) (S : A → Reading B) (first : Steady R) where
  then_steady : ((a : A) → Steady (S a)) → Steady (Then R S)
  then_steady second s i b j le (goes {a = a} {j = k} h g) =
      let f = first s i a k le h in
      let r = second a s k b j f.1 g in
      (omega (arith, f.0, r.0), r.1, λ t agree. goes (f.2 t (agree_less k j s t r.0 agree)) (r.2 t agree))

row_steady : {A : Type 0} (R : ℕ → Reading A) → ((c : ℕ) → Steady (R c)) → (n c : ℕ) → Steady (Row n R c)
row_steady R f zero c = done_steady []
row_steady R f (suc n) c = then_steady (R c) _ (f c) (λ x. then_steady (Row n R (suc c)) _ (row_steady R f n (suc c)) (λ xs. done_steady (x ∷ xs)))

-- faults, where one of the end is not plain
module _ (Q : Fault → List ℕ → Type 0) (no_cut : (s : List ℕ) → Q (fault 3 (length s)) s → ⊥) where
  field_early : {A : Type 0} (n : ℕ) (means : ℕ → A) (P : A → Type 0) → n ≤ 8 → Early Q (Field n means P)
  field_early n means P small s i _ le (cut h) = (le, λ q. absurd (no_cut s q))
  field_early n means P small s i _ le (wrong h w) = (omega arith, λ q. wrong_told n means P s i small h w)

  done_early : {A : Type 0} (a : A) → Early Q (Done a)
  done_early a s i e le h = absurd (apart (sym h))

  then_early : {A B : Type 0} (R : Reading A) (S : A → Reading B) → Steady R → Early Q R → ((a : A) → Early Q (S a)) → Early Q (Then R S)
  then_early R S first early second s i e le (stops h) = let f = early s i e le h in (f.0, λ q. told_as s e (λ t. R t i (refused e)) (λ t. Then R S t i (refused e)) (λ t n _ g r. stops r) (f.1 q))
  then_early R S first early second s i e le (goes {a = a} {j = k} h g) =
      let f = first s i a k le h in
      let r = second a s k e f.1 g in (
        omega (arith, f.0, r.0),
        λ q. told_as s e (λ t. S a t k (refused e)) (λ t. Then R S t i (refused e)) (λ t n le' agree w. goes (f.2 t (agree_less k n s t (omega (arith, r.0)) agree)) w) (r.1 q),
      )

  row_early : {A : Type 0} (R : ℕ → Reading A) → ((c : ℕ) → Steady (R c)) → ((c : ℕ) → Early Q (R c)) → (n c : ℕ) → Early Q (Row n R c)
  row_early R f g zero c = done_early []
  row_early R f g (suc n) c =
      then_early (R c) _ (f c) (g c) (λ x. then_early (Row n R (suc c)) _ (row_steady R f n (suc c)) (row_early R f g n (suc c)) (λ xs. done_early (x ∷ xs)))

  -- the end, and nothing behind it
  end_last : {A : Type 0} (b : A) → Early Q (Then End (λ _. Done b))
  end_last b s i _ le (stops (goes_on h)) = (
    omega arith,
    λ q. record {
      width = 1;
      few = omega arith;
      one_of_a_text = λ e. omega arith;
      within = omega arith;
      same = λ t g. stops (goes_on (let l = agree_length (i + 1) s t (omega arith) g in omega arith));
    },
  )
  end_last b s i e le (goes h g) = absurd (apart (sym g))

-- a text refused at a byte is refused there with any bytes behind it
refused_too : (w u : List ℕ) (p : ℕ) → p < length w → p < length u → take (suc p) w ≡ take (suc p) u → RefusedAt w p → RefusedAt u p
refused_too w u p lw lu e r = record {
  within = omega arith;
  so_far = subst GoesOn (agree_less p (suc p) w u (omega arith) e) r.so_far;
  no_more = λ _ g. r.no_more lw (subst GoesOn (sym e) g);
  none = λ x t. r.no_more lw (subst GoesOn (sym e) (text_goes_on x u (suc p) t));
}

-- the bytes of a text up to the one in fault
module _ (i p : ℕ) (s t : List ℕ) (g : Agree (i + p + 1) s t) where
  rest_agrees : take (suc p) (drop i s) ≡ take (suc p) (drop i t)
  rest_agrees = let e : i + p + 1 ≡ i + suc p = omega arith in agree_field (suc p) i s t (subst (λ n. Agree n s t) e g)

  field_agrees : (n : ℕ) → p < n → take (suc p) (field n s i) ≡ take (suc p) (drop i s)
  field_agrees n lt = take-take (suc p) n (drop i s) lt

field_long : (n i : ℕ) (s : List ℕ) → i + n ≤ length s → length (field n s i) ≡ n
field_long n i s h = length-take n (drop i s) ∙ omega (arith, length-drop i s)

module _ (stage : Stage) (st : Start) where
  abbrev Q : Fault → List ℕ → Type 0
  Q = Plain (built_at stage) st

  no_cut : (s : List ℕ) → Q (fault 3 (length s)) s → ⊥
  no_cut s (inl (_, h)) = omega arith
  no_cut s (inr (h, _)) = omega arith

  text_steady : (n : ℕ) → Steady (TextRead stage st n)
  text_steady n s i _ _ le (a_contract x small h w b) =
      (omega arith, h, λ t g. a_contract x small (agree_length (i + n) s t h g) (subst (λ z. TextTaken st.rates st.currencies z x) (agree_field n i s t g) w) b)

  -- what is refused in the rest of some bytes is refused in others, be the text whole in them or cut
  refused_there : (n i p : ℕ) (s t : List ℕ) → n ≤ 8192 → p < n → i + p < length s → Agree (i + p + 1) s t → RefusedAt (drop i s) p → TextRead stage st n t i (refused (fault 1 (i + p)))
  refused_there n i p s t small lt room g r =
      let l = agree_length (i + p + 1) s t (omega arith) g in
      let there : i + p < length t = omega arith in
      let r' : RefusedAt (drop i t) p = refused_too (drop i s) (drop i t) p (omega (arith, length-drop i s)) (omega (arith, length-drop i t)) (rest_agrees i p s t g) r in
      ⊎_elim (λ past. cut_off small past r' there)
      (λ whole.
      let long = field_long n i t whole in
      no_text small whole (no_contract (omega arith) (refused_too (drop i t) (field n t i) p (omega (arith, length-drop i t)) (omega arith) (sym (field_agrees i p t t refl n lt)) r')))
      (cases_lt (length t) (i + n))

  told_there : (n i p : ℕ) (s : List ℕ) → n ≤ 8192 → p < n → i + p < length s → RefusedAt (drop i s) p → Told s (fault 1 (i + p)) (λ t. TextRead stage st n t i (refused (fault 1 (i + p))))
  told_there n i p s small lt room r =
      record { width = 1; few = omega arith; one_of_a_text = λ e. omega arith; within = omega arith; same = λ t g. refused_there n i p s t small lt room g r }

  -- a text that ends too soon
  told_ended : (n i p : ℕ) (s : List ℕ) → n ≤ 8192 → n ≤ p → i + n ≤ length s → RefusedAt (field n s i) p → Told s (fault 1 (i + p)) (λ t. TextRead stage st n t i (refused (fault 1 (i + p))))
  told_ended n i p s small ge h r =
      let long = field_long n i s h in
      let end : p ≡ n = omega (arith, r.within) in
      record {
        width = 0;
        few = omega arith;
        one_of_a_text = λ e. omega arith;
        within = omega arith;
        same = λ t g.
            let g' = agree_less (i + n) (i + p + 0) s t (omega arith) g in
            let same = agree_field n i s t g' in
            no_text small (agree_length (i + n) s t h g') (no_contract (omega (arith, ap length same)) (subst (λ w. RefusedAt w p) same r));
      }

  text_early : (n : ℕ) → Early Q (TextRead stage st n)
  text_early n s i _ le (too_long h) = (omega arith, λ q. ⊎_elim (λ z. let no : ⊥ = omega (arith, z.0) in absurd no) (λ z. let no : ⊥ = omega (arith, z.0) in absurd no) q)
  text_early n s i _ le (not_built {x} _ h t b) = (omega arith, λ q. ⊎_elim (λ z. let no : ⊥ = omega (arith, z.0) in absurd no) (λ z. absurd (not_both (built_at stage x) (z.1 n x t) b)) q)
  text_early n s i _ le (cut_short _ past _) = (le, λ q. absurd (no_cut s q))
  text_early n s i _ le (cut_off {p = p} small past r lt) = (omega arith, λ q. told_there n i p s small (omega arith) lt r)
  text_early n s i _ le (no_text {k} {p} small h r) = (omega arith, λ q. ⊎_elim (λ z. absurd (one_or_two _ _ _ k p r z.0)) (λ z. by_one z.0) q)
    where
      by_one : k ≡ 1 → Told s (fault k (i + p)) (λ t. TextRead stage st n t i (refused (fault k (i + p))))
      by_one e =
          let at = is_refused_at st.rates st.currencies (field n s i) k p r e in
          subst (λ m. Told s (fault m (i + p)) (λ t. TextRead stage st n t i (refused (fault m (i + p))))) (sym e)
          (⊎_elim
          (λ lt.
          told_there n i p s small lt (omega arith)
          (refused_too (field n s i) (drop i s) p (omega (arith, field_long n i s h)) (omega (arith, length-drop i s)) (take-take (suc p) n (drop i s) lt) at))
          (λ ge. told_ended n i p s small ge h at) (cases_lt p n))

  module _ {A B : Type 0} (n : ℕ) (small : n ≤ 8) (means : ℕ → B) (P : B → Type 0) (c : ℕ) (R : Reading A) where
    limited_steady : Steady R → Steady (Limited c (Field n means P) R)
    limited_steady f s i a j le (few lt h) = let r = f s i a j le h in (r.0, r.1, λ t g. few lt (r.2 t g))

    limited_early : Early Q R → Early Q (Limited c (Field n means P) R)
    limited_early f s i e le (few lt h) =
        let r = f s i e le h in (r.0, λ q. told_as s e (λ t. R t i (refused e)) (λ t. Limited c (Field n means P) R t i (refused e)) (λ t _ _ _ w. few lt w) (r.1 q))
    limited_early f s i e le (many ge (first_fault h p)) =
        let r = field_early Q no_cut n means P small s i e le h in (
          r.0,
          λ q. told_as s e (λ t. Field n means P t i (refused e)) (λ t. Limited c (Field n means P) R t i (refused e)) (λ t _ _ _ w. many ge (first_fault w p)) (r.1 q),
        )
    limited_early f s i _ le (many ge (no_room none)) = (omega arith, λ q. ⊎_elim (λ z. let no : ⊥ = omega (arith, z.0) in absurd no) (λ z. let no : ⊥ = omega (arith, z.0) in absurd no) q)

  deal_steady : (day c : ℕ) → Steady (DealRead stage st day c)
  deal_steady day c =
      limited_steady 2 (omega arith) _ _ c (DealFields stage st day)
      (then_steady _ _ (field_steady 2 _ _)
      (λ holder. then_steady _ _ (field_steady 2 _ _)
      (λ other. then_steady _ _ (field_steady 4 _ _) (λ from. then_steady _ _ (field_steady 2 _ _) (λ n. then_steady _ _ (text_steady n) (λ x. done_steady _))))))

  deal_early : (day c : ℕ) → Early Q (DealRead stage st day c)
  deal_early day c =
      limited_early 2 (omega arith) _ _ c (DealFields stage st day)
      (then_early Q no_cut _ _ (field_steady 2 _ _) (field_early Q no_cut 2 _ _ (omega arith))
      (λ holder. then_early Q no_cut _ _ (field_steady 2 _ _) (field_early Q no_cut 2 _ _ (omega arith))
      (λ other. then_early Q no_cut _ _ (field_steady 4 _ _) (field_early Q no_cut 4 _ _ (omega arith))
      (λ from. then_early Q no_cut _ _ (field_steady 2 _ _) (field_early Q no_cut 2 _ _ (omega arith))
      (λ n. then_early Q no_cut _ _ (text_steady n) (text_early n) (λ x. done_early Q no_cut _))))))

  way_steady : (n : ℕ) → Steady (Row n (λ _. StepRead) 0)
  way_steady n = row_steady (λ _. StepRead) (λ _. field_steady 1 _ _) n 0

  choice_steady : Steady ChoiceRead
  choice_steady = then_steady _ _ (field_steady 4 _ _) (λ deal. then_steady _ _ (field_steady 1 _ _) (λ n. then_steady _ _ (way_steady n) (λ way. done_steady _)))

  choice_early : Early Q ChoiceRead
  choice_early =
      then_early Q no_cut _ _ (field_steady 4 _ _) (field_early Q no_cut 4 _ _ (omega arith))
      (λ deal. then_early Q no_cut _ _ (field_steady 1 _ _) (field_early Q no_cut 1 _ _ (omega arith))
      (λ n. then_early Q no_cut _ _ (way_steady n) (row_early Q no_cut (λ _. StepRead) (λ _. field_steady 1 _ _) (λ _. field_early Q no_cut 1 _ _ (omega arith)) n 0) (λ way. done_early Q no_cut _)))

  morning_early : (day so_far : ℕ) → Early Q (MorningRead stage st day so_far)
  morning_early day so_far =
      limited_early 2 (omega arith) _ _ day (MorningFields stage st day so_far)
      (then_early Q no_cut _ _ (field_steady 2 _ _) (field_early Q no_cut 2 _ _ (omega arith))
      (λ n. then_early Q no_cut _ _ (row_steady (DealRead stage st day) (deal_steady day) n so_far) (row_early Q no_cut (DealRead stage st day) (deal_steady day) (deal_early day) n so_far)
      (λ deals. then_early Q no_cut _ _ (row_steady (λ _. RateRead) (λ _. field_steady 8 _ _) st.rates 0)
      (row_early Q no_cut (λ _. RateRead) (λ _. field_steady 8 _ _) (λ _. field_early Q no_cut 8 _ _ (omega arith)) st.rates 0)
      (λ rates. then_early Q no_cut _ _ (field_steady 2 _ _) (field_early Q no_cut 2 _ _ (omega arith))
      (λ m. then_early Q no_cut _ _ (row_steady (λ _. ChoiceRead) (λ _. choice_steady) m 0) (row_early Q no_cut (λ _. ChoiceRead) (λ _. choice_steady) (λ _. choice_early) m 0)
      (λ choices. end_last Q no_cut _))))))

abbrev Within : Fault → List ℕ → Type 0
Within e s = e.place < length s

not_at_end : (s : List ℕ) → Within (fault 3 (length s)) s → ⊥
not_at_end s h = omega arith

start_early : Early Within StartRead
start_early =
    then_early Within not_at_end _ _ (field_steady 2 _ _) (field_early Within not_at_end 2 _ _ (omega arith))
    (λ houses. then_early Within not_at_end _ _ (field_steady 2 _ _) (field_early Within not_at_end 2 _ _ (omega arith))
    (λ rates. then_early Within not_at_end _ _ (field_steady 1 _ _) (field_early Within not_at_end 1 _ _ (omega arith)) (λ currencies. end_last Within not_at_end _)))

pub front_to_back : FrontToBack
front_to_back =
    (λ s e h. (start_early s 0 e (omega arith) h).1, λ stage st day so_far s e h. (morning_early stage st day so_far s 0 e (omega arith) h).1)
