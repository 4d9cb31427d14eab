-- Deals as keys, and the order of these.
use Rattle.std.proofs.Common.{◌≡◌, ℕ, suc, ◌+◌, ◌<◌, ◌≤◌, List, [], ◌∷◌, ◌++◌, length, get_or, take, refl, ap, ◌∙◌, arith}
use Rattle.std.proofs.lemmas.List.{take_more, length-take-le}
use Rattle.replay.specs.declared.listing.DealIn.{DealIn}
use Rattle.replay.specs.Order.{key_of, keys_from}

abbrev pub no_deal : DealIn
no_deal = record { morning = 0; at = record { holder = 0; other = 0; day = 0; text_at = 0; text_end = 0 } }

pub keys_none : (deals : List DealIn) → ◌≡◌ {A = List ℕ} [] (keys_from 0 (take 0 deals))
unfolding keys_from
keys_none deals = refl

keys_append : (c : ℕ) (xs : List DealIn) (d : DealIn) → keys_from c (xs ++ d ∷ []) ≡ keys_from c xs ++ key_of d (c + length xs) ∷ []
unfolding keys_from
keys_append c [] d = ap (λ n. key_of d n ∷ []) (omega arith)
keys_append c (x ∷ xs) d = ap (λ z. key_of x c ∷ z) (keys_append (suc c) xs d ∙ ap (λ n. keys_from (suc c) xs ++ key_of d n ∷ []) (omega arith))

pub keys_more : (deals : List DealIn) (c : ℕ) (d : DealIn) → c < length deals → keys_from 0 (take (c + 1) deals) ≡ keys_from 0 (take c deals) ++ key_of (get_or deals c d) c ∷ []
keys_more deals c d lt =
    let le : c ≤ length deals = omega arith in
    ap (keys_from 0) (take_more deals c d lt) ∙ keys_append 0 (take c deals) (get_or deals c d)
    ∙ ap (λ n. keys_from 0 (take c deals) ++ key_of (get_or deals c d) n ∷ []) (omega (arith, length-take-le c deals le))
