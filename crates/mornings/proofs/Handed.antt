-- What stands at the place of a part is that part. Assumes nothing.
use Rattle.std.proofs.Common.{◌≡◌, ℕ, zero, suc, ◌+◌, ◌-◌, ◌*◌, ◌<◌, ◌≤◌, List, [], ◌∷◌, length, get_or, take, ℤ, sym, ap, ◌∙◌, subst, arith, w64, to_z}
use Rattle.std.proofs.lemmas.List.{drop_more}
use Rattle.deals.specs.Contract.{Deal, Choice}
use Rattle.octets.specs.Octets.{word, field}
use Rattle.texts.specs.Bounds.{TextTaken}
use Rattle.texts.specs.Stages.{built_at}
use Rattle.texts.specs.declared.stages.Stage.{Stage}
use Rattle.mornings.specs.Verdict.{taken, Reading, right, goes, Row}
use Rattle.mornings.specs.Judgement.{a_contract, few, DealRead, RateRead, StepRead, ChoiceRead}
use Rattle.mornings.specs.Places.{deal_at, rate_at, choice_at, IsDeal, IsChoice}
use Rattle.mornings.specs.Laws.{HandedOut, Walks, Walked}
use Rattle.mornings.specs.declared.Start.{Start}
use Rattle.octets.proofs.Words.{word_1}
use Rattle.mornings.proofs.Fits.{row_length}
use Rattle.mornings.proofs.Rows.{row_next}

deal_handed : (stage : Stage) (st : Start) (day c i j : ℕ) (s : List ℕ) (d : Deal) → DealRead stage st day c s i (taken d j) → IsDeal stage st s (deal_at s i) d j
deal_handed stage st day c i j s d (few _ (goes (right h1 p1) (goes (right h2 p2) (goes (right h3 p3) (goes (right h4 p4) (goes (a_contract x small fit t b) e)))))) =
    let three : i + 2 + 2 ≡ i + 4 = omega arith in
    let four : i + 2 + 2 + 4 ≡ i + 8 = omega arith in
    let five : i + 2 + 2 + 4 + 2 ≡ i + 10 = omega arith in
    let from : word 4 s (i + 2 + 2) ≡ word 4 s (i + 4) = ap (word 4 s) three in
    let long : word 2 s (i + 2 + 2 + 4) ≡ word 2 s (i + 8) = ap (word 2 s) four in
    let n : word 2 s (i + 2 + 2 + 4) ≡ i + 10 + word 2 s (i + 8) - (i + 10) = omega arith in
    let d-is : d ≡ record { holder = word 2 s i; other = word 2 s (i + 2); contract = x; from = word 4 s (i + 2 + 2) } = cc in
    let j-is : j ≡ i + 2 + 2 + 4 + 2 + word 2 s (i + 2 + 2 + 4) = cc in
    let text : TextTaken st.rates st.currencies (field (i + 10 + word 2 s (i + 8) - (i + 10)) s (i + 10)) x =
    subst (λ m. TextTaken st.rates st.currencies (field m s (i + 10)) x) n (subst (λ k. TextTaken st.rates st.currencies (field (word 2 s (i + 2 + 2 + 4)) s k) x) five t) in
    record {
      holder = sym (ap (λ z. z.holder) d-is);
      other = sym (ap (λ z. z.other) d-is);
      from = sym (ap (λ z. z.from) d-is ∙ from);
      in_order = omega arith;
      text = subst (λ z. TextTaken st.rates st.currencies (field (i + 10 + word 2 s (i + 8) - (i + 10)) s (i + 10)) z) (sym (ap (λ z. z.contract) d-is)) text;
      built = ap (λ z. built_at stage z.contract) d-is ∙ b;
      ends = omega arith;
      within = omega arith;
    }

rate_handed : (n c i j k : ℕ) (s : List ℕ) (rs : List ℤ) (a : ℤ) → Row n (λ _. RateRead) c s i (taken rs j) → k < n → (get_or rs k a ≡ rate_at s (i + 8 * k)) × (i + 8 * k + 8 ≤ length s)
rate_handed zero c i j k s rs a h lt = let z : ⊥ = omega arith in absurd z
rate_handed (suc n) c i j zero s rs a (goes (right h p) (goes {a = ts} r e)) lt =
    let rs-is : rs ≡ to_z w64 (word 8 s i) ∷ ts = cc in
    (ap (λ z. get_or z 0 a) rs-is ∙ ap (λ m. to_z w64 (word 8 s m)) (omega arith), omega arith)
rate_handed (suc n) c i j (suc k) s rs a (goes (right h p) (goes {a = ts} {j = to} r e)) lt =
    let rs-is : rs ≡ to_z w64 (word 8 s i) ∷ ts = cc in
    let rest = rate_handed n (suc c) (i + 8) to k s ts a r (omega arith) in
    (ap (λ z. get_or z (suc k) a) rs-is ∙ rest.0 ∙ ap (λ m. to_z w64 (word 8 s m)) (omega arith), omega (arith, rest.1))

-- the steps of a way are its bytes
steps_are : (n c i j : ℕ) (s way : List ℕ) → i ≤ length s → Row n (λ _. StepRead) c s i (taken way j) → (field n s i ≡ way) × (i + n ≡ j) × (j ≤ length s)
steps_are zero c i j s way le e = let w : way ≡ [] = cc in let f : j ≡ i = cc in (sym w, omega arith, omega arith)
steps_are (suc n) c i j s way le (goes (right h p) (goes {a = ts} {j = to} r e)) =
    let way-is : way ≡ word 1 s i ∷ ts = cc in
    let j-is : j ≡ to = cc in
    let rest = steps_are n (suc c) (i + 1) to s ts h r in
    let lt : i < length s = omega arith in
    (ap (take (suc n)) (drop_more s i 0 lt) ∙ ap (λ b. b ∷ field n s (i + 1)) (word_1 s i (omega arith)) ∙ ap (λ z. word 1 s i ∷ z) rest.0 ∙ sym way-is, omega (arith, rest.1), omega (arith, rest.2))

choice_handed : (i j : ℕ) (s : List ℕ) (c : Choice) → ChoiceRead s i (taken c j) → IsChoice s (choice_at s i) c j
choice_handed i j s c (goes (right h1 p1) (goes (right h2 p2) (goes {a = way} {j = to} r e))) =
    let c-is : c ≡ record { of = word 4 s i; at = way } = cc in
    let j-is : j ≡ to = cc in
    let five : i + 4 + 1 ≡ i + 5 = omega arith in
    let n : i + 5 + word 1 s (i + 4) - (i + 5) ≡ word 1 s (i + 4) = omega arith in
    let rest = steps_are (word 1 s (i + 4)) 0 (i + 4 + 1) to s way h2 r in
    record {
      deal = sym (ap (λ z. z.of) c-is);
      in_order = omega arith;
      way = ap (λ m. field m s (i + 5)) n ∙ ap (λ k. field (word 1 s (i + 4)) s k) (sym five) ∙ rest.0 ∙ sym (ap (λ z. z.at) c-is);
      ends = omega (arith, rest.1);
      within = omega (arith, rest.2);
    }

pub handed_out : HandedOut
handed_out = (deal_handed, rate_handed, choice_handed)

walks : {A : Type 0} (R : ℕ → Reading A) → Walks R
walks R = (λ n c i j s xs h. row_length R s n c i xs j h, λ n c i j s xs h. row_next R n c s i j xs h)

pub walked : Walked
walked = (λ stage st day. walks (DealRead stage st day), walks (λ _. ChoiceRead))
