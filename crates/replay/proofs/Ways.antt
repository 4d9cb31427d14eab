-- Ways as numbers.
use Rattle.std.proofs.Common.{◌≡◌, ℕ, ◌≤◌, [], ◌∷◌, ◌++◌, length, sym, refl, ◌∙◌, arith, length-append}
use Rattle.std.specs.List.{fold}
use Rattle.deals.specs.Contract.{Path}
use Rattle.replay.specs.declared.choices.Way.{Way}
use Rattle.replay.specs.Choices.{one_more, way_bits, way_of, stepped}

-- a step further
bits_append : (b : ℕ) (p : Path) (s : ℕ) → way_bits b (p ++ s ∷ []) ≡ one_more (way_bits b p) s
unfolding way_bits
bits_append b [] s = refl
bits_append b (x ∷ p) s = bits_append (one_more b x) p s

same_way : (b b' l l' : ℕ) → b ≡ b' → l ≡ l' → ◌≡◌ {A = Way} (record { bits = b; len = l }) (record { bits = b'; len = l' })
same_way b b' l l' p q = λ i. record { bits = p i; len = q i }

pub way_step : (p : Path) (s : ℕ) → stepped (way_of p) s ≡ way_of (p ++ s ∷ [])
unfolding way_of
way_step p s =
    let long = length-append p (s ∷ []) in
    same_way _ _ _ _ (sym (bits_append 0 p s)) (omega arith)

-- one step after the other
pub bits_fold : (b : ℕ) (p : Path) → fold one_more b p ≡ way_bits b p
unfolding way_bits
bits_fold b [] = refl
bits_fold b (s ∷ p) = bits_fold (one_more b s) p

pub way_fold : (p : Path) (b n : ℕ) → b ≡ fold one_more 0 p → n ≡ length p → n ≤ 18446744073709551615 → ◌≡◌ {A = Way} (record { bits = b; len = n }) (way_of p)
unfolding way_of
way_fold p b n e l h = same_way _ _ _ _ (e ∙ bits_fold 0 p) (omega arith)

pub way_long : (p : Path) (n : ℕ) → length p ≡ n → n ≤ 18446744073709551615 → way_of p ≡ record { bits = way_bits 0 p; len = n }
unfolding way_of
way_long p n e h = same_way _ _ _ _ refl (omega arith)
