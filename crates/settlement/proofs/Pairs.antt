-- Pairs counted one after the other, each in its place of a table.
use Rattle.std.proofs.Common.{◌≡◌, ℕ, suc, min, max, ◌+◌, ◌*◌, ◌%◌, ◌<◌, ◌≤◌, Bool, true, false, ◌||◌, eqb, List, [], ◌∷◌, ◌++◌, map, length, get_or, take, set, replicate, sym, refl, ap, ◌∙◌, ap₂, subst, inl, inr, ⊎_elim, arith}
use Rattle.std.proofs.lemmas.List.{get_or-set_same, get_or-set_other, length-set, length-append, length-map, length-take, length-replicate, get_or-replicate, append_assoc, append-nil, map-append, take_more}
use Rattle.std.proofs.Math.Bool.{or-false}
use Rattle.std.proofs.lemmas.Bool.Decides.{nat_tests}
use Rattle.std.proofs.lemmas.Bool.{eq-eqb, ne_eqb, cases_eq, cases_Bool, or_left, or_right}
use Rattle.std.specs.List.{AllByRecursion}
use Rattle.std.proofs.ByRecursion.{All-get_or}
use Rattle.deals.specs.Contract.{Deal, pick, larger}
use Rattle.deals.specs.Lines.{pair, among, different, deal_pair, pair_count}
use Rattle.deals.specs.Sleep.{smaller}
use Rattle.texts.specs.declared.stages.Stage.TheVariants.{Thin}
use Rattle.mornings.specs.declared.Start.{Start}
use Rattle.mornings.specs.Verdict as verdict
use Rattle.mornings.specs.Verdict.{Row}
use Rattle.mornings.specs.Judgement.{DealRead}
use Rattle.mornings.specs.Places.{deal_at}
use Rattle.settlement.specs.Counting.{Counted, CountedPair, CountedKept, CountedNew, PairsStand, Inside, nobodys}
use Rattle.mornings.proofs.Handed.{walked}
use Rattle.settlement.proofs.Walking.{all_left, all_right}
use Rattle.settlement.proofs.Handed.{Ahead, ahead_start, none_done, ahead_more, ahead_end, next_has}

-- ONE NUMBER MORE, BEHIND THE OTHERS

among_last : (q r : ℕ) (xs : List ℕ) → among q (xs ++ r ∷ []) ≡ (among q xs || eqb q r)
unfolding among
among_last q r [] = or-false (eqb q r)
among_last q r (x ∷ xs) = ap (λ t. eqb q x || t) (among_last q r xs) ∙ regroup (eqb q x) (among q xs) (eqb q r)
  where
    regroup : (a b c : Bool) → (a || (b || c)) ≡ ((a || b) || c)
    regroup true b c = refl
    regroup false b c = refl

-- a before b: what pick says where they are told apart, and where they are one
two_steps : (a b : Bool) (d : ℕ) → pick a (pick b d (suc d)) (suc (pick b d (suc d))) ≡ pick b (pick a d (suc d)) (suc (pick a d (suc d)))
two_steps true true d = refl
two_steps true false d = refl
two_steps false true d = refl
two_steps false false d = refl

pub different_last : (xs : List ℕ) (q : ℕ) → different (xs ++ q ∷ []) ≡ pick (among q xs) (different xs) (suc (different xs))
unfolding different among
different_last [] q = refl
different_last (x ∷ xs) q =
    rw (among_last x q xs, different_last xs q)
    (⊎_elim
    (λ is. same is)
    (λ ne. rw (ne_eqb x q (λ e. ne (sym e)), ne_eqb q x ne) (rw (or-false (among x xs)) (two_steps (among x xs) (among q xs) (different xs)))) (cases_eq q x))
  where
    known : (b : Bool) (d : ℕ) → pick (b || true) (pick b d (suc d)) (suc (pick b d (suc d))) ≡ pick true (pick b d (suc d)) (suc (pick b d (suc d)))
    known true d = refl
    known false d = refl

    same : q ≡ x → pick (among x xs || eqb x q) (pick (among q xs) (different xs) (suc (different xs))) (suc (pick (among q xs) (different xs) (suc (different xs)))) ≡
        pick (eqb q x || among q xs) (pick (among x xs) (different xs) (suc (different xs))) (suc (pick (among x xs) (different xs) (suc (different xs))))
    same is = rw (eq-eqb x q (sym is), eq-eqb q x is) (rw (ap (λ z. among z xs) is) (known (among x xs) (different xs)))

pub different_few : (xs : List ℕ) → different xs ≤ length xs
unfolding different
different_few [] = omega arith
different_few (x ∷ xs) =
    elim (cases_Bool (among x xs)) [ inl e ↦ rw e (omega (arith, different_few xs)) | inr e ↦ rw e (omega (arith, different_few xs)) ]

-- ONE PAIR MORE

pub ordered : (a b : ℕ) → pair (smaller a b) (larger a b) ≡ pair (min a b) (max a b)
ordered a b = grind (arith, nat_tests)

module _ (seen : List Bool) (pairs : List ℕ) (count low high : ℕ) (c : Counted seen pairs count) (few : length pairs < 4294967296) (in-low : low < 1024) (in-high : high < 1024) where
  place : ℕ
  place = low * 1024 + high

  within : low * 1024 + high < length seen
  within = omega (arith, c.long)

  one_place : (a b : ℕ) → a < 1024 → b < 1024 → a * 1024 + b ≡ low * 1024 + high → pair a b ≡ pair low high
  one_place a b la lb e = omega arith

  one_pair : (a b : ℕ) → a < 1024 → b < 1024 → pair a b ≡ pair low high → a * 1024 + b ≡ low * 1024 + high
  one_pair a b la lb e = omega arith

  -- it was counted before
  pub counted_again : get_or seen (low * 1024 + high) false ≡ true → Counted seen (pairs ++ pair low high ∷ []) count
  counted_again is =
      let known : among (pair low high) pairs ≡ true = sym (c.marks low high in-low in-high) ∙ is in
      record {
        long = c.long;
        marks = λ a b la lb.
            c.marks a b la lb
            ∙ ⊎_elim
            (λ e. ap (λ z. among z pairs) e ∙ known ∙ sym (among_last (pair a b) (pair low high) pairs ∙ or_left (among (pair a b) pairs) (eqb (pair a b) (pair low high)) (ap (λ z. among z pairs) e ∙ known)))
            (λ ne. sym (among_last (pair a b) (pair low high) pairs ∙ ap (λ t. among (pair a b) pairs || t) (ne_eqb (pair a b) (pair low high) ne) ∙ or-false (among (pair a b) pairs)))
            (cases_eq (pair a b) (pair low high));
        count_is = c.count_is ∙ sym (different_last pairs (pair low high) ∙ ap (λ t. pick t (different pairs) (suc (different pairs))) known);
      }

  -- it is new
  pub counted_new : get_or seen (low * 1024 + high) false ≡ false → Counted (set seen (low * 1024 + high) true) (pairs ++ pair low high ∷ []) ((count + 1) % 18446744073709551616)
  counted_new is =
      let unknown : among (pair low high) pairs ≡ false = sym (c.marks low high in-low in-high) ∙ is in
      let at_most : count ≤ length pairs = omega (arith, c.count_is, different_few pairs) in
      record {
        long = simp (length-set) c.long;
        marks = λ a b la lb.
            ⊎_elim
            (λ (e : a * 1024 + b ≡ low * 1024 + high).
            ap (λ i. get_or (set seen (low * 1024 + high) true) i false) e ∙ get_or-set_same seen (low * 1024 + high) true false within
            ∙ sym (among_last (pair a b) (pair low high) pairs ∙ or_right (among (pair a b) pairs) (eqb (pair a b) (pair low high)) (eq-eqb (pair a b) (pair low high) (one_place a b la lb e))))
            (λ ne.
            get_or-set_other seen (low * 1024 + high) (a * 1024 + b) true false ne ∙ c.marks a b la lb
            ∙ sym (among_last (pair a b) (pair low high) pairs ∙ ap (λ t. among (pair a b) pairs || t) (ne_eqb (pair a b) (pair low high) (λ e. ne (one_pair a b la lb e))) ∙ or-false (among (pair a b) pairs)))
            (cases_eq (a * 1024 + b) (low * 1024 + high));
        count_is = sym (different_last pairs (pair low high) ∙ ap (λ t. pick t (different pairs) (suc (different pairs))) unknown ∙ omega (arith, c.count_is, at_most));
      }

-- as the code has it: the lower house by min, the other by max
module _ (seen : List Bool) (pairs : List ℕ) (count holder other low high : ℕ) (low_is : low ≡ min holder other) (high_is : high ≡ max holder other) (c : Counted seen pairs count) (h : holder < 1024) (o : other < 1024) (few : length pairs < 4294967296) where
  in_low : low < 1024
  in_low = omega (arith, low_is)

  in_high : high < 1024
  in_high = omega (arith, high_is)

  is : pair low high ≡ pair (smaller holder other) (larger holder other)
  is = ap₂ pair low_is high_is ∙ sym (ordered holder other)

  pub has_place : length seen ≤ low * 1024 + high → ⊥
  has_place past = omega (arith, c.long, in_low, in_high)

  pub pair_again : get_or seen (low * 1024 + high) false ≡ true → Counted seen (pairs ++ pair (smaller holder other) (larger holder other) ∷ []) count
  pair_again known = subst (λ p. Counted seen (pairs ++ p ∷ []) count) is (counted_again seen pairs count low high c few in_low in_high known)

  pub pair_new : get_or seen (low * 1024 + high) false ≡ false → Counted (set seen (low * 1024 + high) true) (pairs ++ pair (smaller holder other) (larger holder other) ∷ []) ((count + 1) % 18446744073709551616)
  pair_new known = subst (λ p. Counted (set seen (low * 1024 + high) true) (pairs ++ p ∷ []) ((count + 1) % 18446744073709551616)) is (counted_new seen pairs count low high c few in_low in_high known)

-- ONE DEAL MORE

deal_counted : (seen' : List Bool) (pairs : List ℕ) (r holder other : ℕ) (d : Deal) → holder ≡ d.holder → other ≡ d.other →
    Counted seen' (pairs ++ pair (smaller holder other) (larger holder other) ∷ []) r → Counted seen' (pairs ++ deal_pair d ∷ []) r
unfolding deal_pair
deal_counted seen' pairs r holder other d h o counted = rw (sym h, sym o) counted

-- of those that are kept
pub kept_more : (seen seen' : List Bool) (count r holder other c : ℕ) (dd : List Deal) → c < length dd → length dd ≤ 65536 → AllByRecursion Inside dd →
    holder ≡ (get_or dd c nobodys).holder → other ≡ (get_or dd c nobodys).other → CountedPair holder other seen count seen' r → Counted seen (map deal_pair (take c dd)) count →
    Counted seen' (map deal_pair (take (c + 1) dd)) r
kept_more seen seen' count r holder other c dd lt few inside h o more counted =
    let here : Inside (get_or dd c nobodys) = All-get_or Inside dd c nobodys lt inside in
    let long : length (map deal_pair (take c dd)) < 4294967296 = simp (length-map, length-take) (omega arith) in
    subst (λ z. Counted seen' z r) (sym (ap (map deal_pair) (take_more dd c nobodys lt) ∙ map-append deal_pair (take c dd) (get_or dd c nobodys ∷ [])))
    (deal_counted seen' (map deal_pair (take c dd)) r holder other (get_or dd c nobodys) h o (more (map deal_pair (take c dd)) counted (omega (arith, h, here.0)) (omega (arith, o, here.1)) long))

-- of a morning
pub record Coming (st : Start) (day : ℕ) (bytes : List ℕ) (n first : ℕ) (dd : List Deal) (j : ℕ) (pairs : List ℕ) (k at : ℕ) (seen : List Bool) (count : ℕ) : Type 0 where
  pub ahead : Ahead st day bytes n first dd j k at
  pub counted : Counted seen (pairs ++ map deal_pair ahead.done) count

pub coming_start : (st : Start) (day : ℕ) (bytes : List ℕ) (n first : ℕ) (dd : List Deal) (j : ℕ) (pairs : List ℕ) (seen : List Bool) (count : ℕ) →
    Row n (DealRead Thin st day) first bytes 2 (verdict.taken dd j) → Counted seen pairs count → Coming st day bytes n first dd j pairs 0 2 seen count
coming_start st day bytes n first dd j pairs seen count row counted =
    record { ahead = ahead_start st day bytes n first dd j row; counted = subst (λ z. Counted seen z count) (sym (ap (λ z. pairs ++ map deal_pair z) (none_done st day bytes n first dd j row) ∙ append-nil pairs)) counted }

pub coming_more : (st : Start) (day : ℕ) (bytes : List ℕ) (n first : ℕ) (dd : List Deal) (j : ℕ) (pairs : List ℕ) (k at : ℕ) (seen seen' : List Bool) (count r : ℕ) → k < n → length pairs + n ≤ 131072 →
    AllByRecursion Inside dd → CountedPair (deal_at bytes at).holder (deal_at bytes at).other seen count seen' r → Coming st day bytes n first dd j pairs k at seen count →
    Coming st day bytes n first dd j pairs (k + 1) (deal_at bytes at).text_end seen' r
coming_more st day bytes n first dd j pairs k at seen seen' count r lt few inside more c =
    let x = ahead_more st day bytes n first dd j k at lt c.ahead in
    let here : Inside x.deal = next_has Inside st day bytes n first dd j k at c.ahead x inside in
    let so_far = pairs ++ map deal_pair c.ahead.done in
    let long : length so_far < 4294967296 = omega (arith, length-append pairs (map deal_pair c.ahead.done), length-map c.ahead.done deal_pair, c.ahead.many) in
    let one : Counted seen' (so_far ++ deal_pair x.deal ∷ []) r =
    deal_counted seen' so_far r (deal_at bytes at).holder (deal_at bytes at).other x.deal x.is.holder x.is.other (more so_far c.counted (omega (arith, x.is.holder, here.0)) (omega (arith, x.is.other, here.1)) long) in
    subst (λ z. Coming st day bytes n first dd j pairs (k + 1) z seen' r) (sym x.is.ends)
    (record {
      ahead = x.behind;
      counted = subst (λ z. Counted seen' z r) (append_assoc pairs (map deal_pair c.ahead.done) (deal_pair x.deal ∷ []) ∙ ap (λ z. pairs ++ z) (sym (ap (map deal_pair) x.done_is ∙ map-append deal_pair c.ahead.done (x.deal ∷ [])))) one;
    })

pub coming_end : (st : Start) (day : ℕ) (bytes : List ℕ) (n first : ℕ) (dd : List Deal) (j : ℕ) (pairs : List ℕ) (k at : ℕ) (seen : List Bool) (count : ℕ) → k ≡ n → Coming st day bytes n first dd j pairs k at seen count →
    Counted seen (pairs ++ map deal_pair dd) count
coming_end st day bytes n first dd j pairs k at seen count all c =
    subst (λ z. Counted seen (pairs ++ map deal_pair z) count) (sym (ahead_end st day bytes n first dd j k at all c.ahead)) c.counted

-- a deal ahead stands within the bytes
pub has_deal : (st : Start) (day : ℕ) (bytes : List ℕ) (n first : ℕ) (dd : List Deal) (j : ℕ) (pairs : List ℕ) (k at : ℕ) (seen : List Bool) (count : ℕ) → k < n → Coming st day bytes n first dd j pairs k at seen count →
    length bytes < (deal_at bytes at).text_end → ⊥
has_deal st day bytes n first dd j pairs k at seen count lt c past =
    let x = ahead_more st day bytes n first dd j k at lt c.ahead in omega (arith, x.is.ends, x.is.within)

-- none yet
pub none_counted : (n : ℕ) → n ≡ 1048576 → Counted (replicate n false) [] 0
unfolding among different
none_counted n table =
    record {
      long = length-replicate n false ∙ table;
      marks = λ a b la lb. get_or-replicate n (a * 1024 + b) false false (omega (arith, table));
      count_is = refl;
    }

-- what comes of both rows
pub all_counted : (s : List ℕ) (first : ℕ) (bytes : List ℕ) (new n kept r : ℕ) (seen seen' : List Bool) (dd : List Deal) → n ≡ 1048576 → length dd ≤ 65536 → CountedKept s first (replicate n false) kept seen →
    CountedNew bytes new seen kept r seen' → PairsStand s first bytes new dd → r ≡ pair_count dd
unfolding pair_count
all_counted s first bytes new n kept r seen seen' dd table few first_row second_row p =
    let many : length dd ≡ length p.old + length p.later = ap length p.parts ∙ length-append p.old p.later in
    let come : length p.later ≡ new = (walked.0 Thin p.start p.day).0 new first 2 p.to bytes p.later p.come in
    let split = subst (AllByRecursion Inside) p.parts p.inside in
    let front = first_row p.old p.many (omega (arith, many, p.many)) (all_left Inside p.old p.later split) p.kept (none_counted n table) in
    let both = second_row p.start p.day first p.later p.to (map deal_pair p.old) p.come (all_right Inside p.old p.later split) (omega (arith, length-map p.old deal_pair, many, come)) front in
    both.count_is ∙ ap different (sym (ap (map deal_pair) p.parts ∙ map-append deal_pair p.old p.later))
