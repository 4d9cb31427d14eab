-- What is kept stands for the mornings taken, from the first on.
use Rattle.std.proofs.Common.{◌≡◌, ℕ, ◌+◌, ◌-◌, ◌<◌, ◌≤◌, List, [], ◌∷◌, ◌++◌, length, get_or, take, drop, sym, refl, ap, ◌∙◌, subst, ⊎_elim, arith, length-append, length-drop}
use Rattle.std.proofs.lemmas.List.{get_or_append_left, get_or_at, take-append-le, take_at, take_all, drop-append-le, drop_at}
use Rattle.std.proofs.lemmas.Bool.{cases_lt}
use Rattle.deals.specs.Contract.{Morning, all_deals}
use Rattle.texts.specs.declared.stages.Stage.TheVariants.{All}
use Rattle.mornings.specs.Judgement.{LaidOut}
use Rattle.mornings.specs.declared.Start.{Start}
use Rattle.mornings.specs.declared.Ends.{Ends}
use Rattle.replay.specs.declared.days.DayAt.{DayAt}
use Rattle.replay.specs.Days.{nowhere, bytes_of}
use Rattle.replay.specs.Standing.{no_morning, MorningsStand, StandsAnew}

bytes_before : (kept s : List ℕ) (d : DayAt) → d.to ≤ length kept → bytes_of (kept ++ s) d ≡ bytes_of kept d
unfolding bytes_of
bytes_before kept s d le = ⊎_elim past inside (cases_lt (length kept) d.from)
  where
    past : length kept < d.from → take (d.to - d.from) (drop d.from (kept ++ s)) ≡ take (d.to - d.from) (drop d.from kept)
    past h = let none : d.to - d.from ≡ 0 = omega arith in rw none

    inside : d.from ≤ length kept → take (d.to - d.from) (drop d.from (kept ++ s)) ≡ take (d.to - d.from) (drop d.from kept)
    inside h =
        let few : d.to - d.from ≤ length (drop d.from kept) = omega (arith, length-drop d.from kept) in
        ap (take (d.to - d.from)) (drop-append-le d.from kept s h) ∙ take-append-le (d.to - d.from) (drop d.from kept) s few

bytes_last : (kept s : List ℕ) (ends : Ends) → bytes_of (kept ++ s) (record { from = length kept; to = length kept + length s; parts = ends }) ≡ s
unfolding bytes_of
bytes_last kept s ends =
    let long : length kept + length s - length kept ≡ length s = omega arith in
    ap (λ z. take z (drop (length kept) (kept ++ s))) long ∙ ap (take (length s)) (drop_at kept s (length kept) refl) ∙ take_all (length s) s (omega arith)

module _ (st : Start) (kept s : List ℕ) (days : List DayAt) (ms : List Morning) (ends : Ends) (m : Morning) (stand : MorningsStand st kept days ms)
    (laid : LaidOut All st (length ms) (length (all_deals ms)) s ends m) where
  abbrev last : DayAt
  last = record { from = length kept; to = length kept + length s; parts = ends }

  abbrev Judged : ℕ → List ℕ → DayAt → ℕ → Morning → Type 0
  Judged t bytes d n k = LaidOut All st t n bytes d.parts k

  day_before : (t : ℕ) → t < length ms → get_or (days ++ last ∷ []) t nowhere ≡ get_or days t nowhere
  day_before t lt = get_or_append_left days (last ∷ []) nowhere t (omega (arith, stand.many))

  day_last : get_or (days ++ last ∷ []) (length ms) nowhere ≡ last
  day_last = get_or_at days last [] nowhere (length ms) stand.many

  judged_before : (t : ℕ) → t < length ms →
      LaidOut All st t (length (all_deals (take t (ms ++ m ∷ [])))) (bytes_of (kept ++ s) (get_or (days ++ last ∷ []) t nowhere)) (get_or (days ++ last ∷ []) t nowhere).parts (get_or (ms ++ m ∷ []) t no_morning)
  judged_before t lt =
      let le : t ≤ length ms = omega arith in
      let d = day_before t lt in
      let b : bytes_of kept (get_or days t nowhere) ≡ bytes_of (kept ++ s) (get_or (days ++ last ∷ []) t nowhere) = sym (ap (bytes_of (kept ++ s)) d ∙ bytes_before kept s (get_or days t nowhere) (stand.within t lt)) in
      let n : length (all_deals (take t ms)) ≡ length (all_deals (take t (ms ++ m ∷ []))) = ap (λ z. length (all_deals z)) (sym (take-append-le t ms (m ∷ []) le)) in
      let k : get_or ms t no_morning ≡ get_or (ms ++ m ∷ []) t no_morning = sym (get_or_append_left ms (m ∷ []) no_morning t lt) in
      subst (λ z. Judged t (bytes_of (kept ++ s) (get_or (days ++ last ∷ []) t nowhere)) (get_or (days ++ last ∷ []) t nowhere) (length (all_deals (take t (ms ++ m ∷ [])))) z) k
      (subst (λ z. Judged t (bytes_of (kept ++ s) (get_or (days ++ last ∷ []) t nowhere)) (get_or (days ++ last ∷ []) t nowhere) z (get_or ms t no_morning)) n
      (subst (λ z. Judged t (bytes_of (kept ++ s) (get_or (days ++ last ∷ []) t nowhere)) z (length (all_deals (take t ms))) (get_or ms t no_morning)) (sym d)
      (subst (λ z. Judged t z (get_or days t nowhere) (length (all_deals (take t ms))) (get_or ms t no_morning)) b (stand.judged t lt))))

  judged_last :
      LaidOut All st (length ms) (length (all_deals (take (length ms) (ms ++ m ∷ [])))) (bytes_of (kept ++ s) (get_or (days ++ last ∷ []) (length ms) nowhere)) (get_or (days ++ last ∷ []) (length ms) nowhere).parts
      (get_or (ms ++ m ∷ []) (length ms) no_morning)
  judged_last =
      let t = length ms in
      let d = day_last in
      let b : s ≡ bytes_of (kept ++ s) (get_or (days ++ last ∷ []) t nowhere) = sym (ap (bytes_of (kept ++ s)) d ∙ bytes_last kept s ends) in
      let n : length (all_deals ms) ≡ length (all_deals (take t (ms ++ m ∷ []))) = ap (λ z. length (all_deals z)) (sym (take_at ms (m ∷ []) t refl)) in
      let k : m ≡ get_or (ms ++ m ∷ []) t no_morning = sym (get_or_at ms m [] no_morning t refl) in
      subst (λ z. Judged t (bytes_of (kept ++ s) (get_or (days ++ last ∷ []) t nowhere)) (get_or (days ++ last ∷ []) t nowhere) (length (all_deals (take t (ms ++ m ∷ [])))) z) k
      (subst (λ z. Judged t (bytes_of (kept ++ s) (get_or (days ++ last ∷ []) t nowhere)) (get_or (days ++ last ∷ []) t nowhere) z m) n
      (subst (λ z. Judged t (bytes_of (kept ++ s) (get_or (days ++ last ∷ []) t nowhere)) z (length (all_deals ms)) m) (sym d)
      (subst (λ z. Judged t z last (length (all_deals ms)) m) b laid)))

  more : MorningsStand st (kept ++ s) (days ++ last ∷ []) (ms ++ m ∷ [])
  more =
      let long = length-append ms (m ∷ []) in
      record {
        start = stand.start;
        many = omega (arith, length-append days (last ∷ []), stand.many, long);
        within = λ t lt. ⊎_elim (λ l. omega (arith, ap (λ d. d.to) (day_before t l), stand.within t l, length-append kept s))
            (λ le. let same : t ≡ length ms = omega arith in omega (arith, ap (λ z. (get_or (days ++ last ∷ []) z nowhere).to) same, ap (λ d. d.to) day_last, length-append kept s)) (cases_lt t (length ms));
        judged = λ t lt. ⊎_elim (λ l. judged_before t l)
            (λ le. let same : length ms ≡ t = omega arith in
            subst (λ z. LaidOut All st z (length (all_deals (take z (ms ++ m ∷ [])))) (bytes_of (kept ++ s) (get_or (days ++ last ∷ []) z nowhere)) (get_or (days ++ last ∷ []) z nowhere).parts (get_or (ms ++ m ∷ []) z no_morning)) same judged_last)
            (cases_lt t (length ms));
      }

pub stands_anew_lem : StandsAnew
stands_anew_lem = (
  λ st fits. record { start = fits; many = refl; within = λ t lt. absurd (omega arith); judged = λ t lt. absurd (omega arith) },
  λ st kept s days ms ends m stand laid. more st kept s days ms ends m stand laid,
)
