-- The words of the deals that wake, one deal after the other.
use Rattle.std.proofs.Common.{◌≡◌, ℕ, ◌+◌, ◌<◌, ◌≤◌, cond, List, [], ◌∷◌, ◌++◌, map, filter, sym, refl, ap, ◌∙◌, arith}
use Rattle.std.specs.List.{range_with_len}
use Rattle.std.proofs.lemmas.List.Elements.{filter-append}
use Rattle.std.proofs.lemmas.List.{append-nil, map-append, map-id}
use Rattle.std.proofs.lemmas.List.FromFn.{map-range_with_len_more}
use Rattle.std.proofs.lemmas.Bool.{le-leb, lt-leb}
use Rattle.settlement.specs.Directory.{entry_of}
use Rattle.settlement.specs.Order.{word_at, wakes_at, words_waking}

counting_more : (c : ℕ) → range_with_len 0 (c + 1) ≡ range_with_len 0 c ++ c ∷ []
counting_more c =
    sym (map-id (range_with_len 0 (c + 1))) ∙ map-range_with_len_more (λ z. z) 0 c c (omega arith) ∙ ap (λ zs. zs ++ c ∷ []) (map-id (range_with_len 0 c))

pub waking_none : (t : ℕ) (s : List ℕ) → [] ≡ words_waking t s 0
unfolding words_waking
waking_none t s = refl

one_more : (t : ℕ) (s : List ℕ) (c : ℕ) → words_waking t s (c + 1) ≡ words_waking t s c ++ map (word_at s) (cond (wakes_at t s c) (c ∷ []) [])
unfolding words_waking
one_more t s c =
    ap (λ zs. map (word_at s) (filter (wakes_at t s) zs)) (counting_more c)
    ∙ ap (map (word_at s)) (filter-append (wakes_at t s) (range_with_len 0 c) (c ∷ []))
    ∙ map-append (word_at s) (filter (wakes_at t s) (range_with_len 0 c)) (cond (wakes_at t s c) (c ∷ []) [])

pub waking_yes : (t : ℕ) (s : List ℕ) (c : ℕ) → (entry_of s c).kept.wake ≤ t → words_waking t s (c + 1) ≡ words_waking t s c ++ word_at s c ∷ []
unfolding wakes_at
waking_yes t s c le = one_more t s c ∙ ap (λ b. words_waking t s c ++ map (word_at s) (cond b (c ∷ []) [])) (le-leb (entry_of s c).kept.wake t le)

pub waking_no : (t : ℕ) (s : List ℕ) (c : ℕ) → t < (entry_of s c).kept.wake → words_waking t s (c + 1) ≡ words_waking t s c
unfolding wakes_at
waking_no t s c lt = one_more t s c ∙ ap (λ b. words_waking t s c ++ map (word_at s) (cond b (c ∷ []) [])) (lt-leb (entry_of s c).kept.wake t lt) ∙ append-nil (words_waking t s c)
