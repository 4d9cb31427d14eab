-- Bytes written behind one another. Assumes nothing.
use Rattle.std.proofs.Common.{◌≡◌, ℕ, ◌+◌, ◌≤◌, List, ◌++◌, length, take, drop, sym, ap, ◌∙◌, subst, append_assoc, arith}
use Rattle.std.proofs.lemmas.List.{length-append, length-take-le, take_at, drop_at, drop-drop}
use Rattle.octets.specs.Octets.{put}

module _ (s : List ℕ) (i : ℕ) (bs cs : List ℕ) (room : i + length bs + length cs ≤ length s) where
  front : length (take i s ++ bs) ≡ i + length bs
  front = length-append (take i s) bs ∙ ap (λ n. n + length bs) (length-take-le i s (omega arith))

  -- two writes, one right behind the other, are one
  pub put_put : put (put s i bs) (i + length bs) cs ≡ put s i (bs ++ cs)
  put_put =
      let whole : put s i bs ≡ (take i s ++ bs) ++ drop (i + length bs) s = sym (append_assoc (take i s) bs (drop (i + length bs) s)) in
      let before : take (i + length bs) (put s i bs) ≡ take i s ++ bs = ap (take (i + length bs)) whole ∙ take_at (take i s ++ bs) (drop (i + length bs) s) (i + length bs) front in
      let after : drop (i + length bs + length cs) (put s i bs) ≡ drop (i + length (bs ++ cs)) s =
      sym (drop-drop (length cs) (i + length bs) (put s i bs))
      ∙ ap (drop (length cs)) (ap (drop (i + length bs)) whole ∙ drop_at (take i s ++ bs) (drop (i + length bs) s) (i + length bs) front)
      ∙ drop-drop (length cs) (i + length bs) s ∙ ap (λ n. drop n s) (omega (arith, length-append bs cs)) in
      ap (λ a. a ++ (cs ++ drop (i + length bs + length cs) (put s i bs))) before
      ∙ ap (λ z. (take i s ++ bs) ++ (cs ++ z)) after ∙ append_assoc (take i s) bs (cs ++ drop (i + length (bs ++ cs)) s)
      ∙ ap (λ z. take i s ++ z) (sym (append_assoc bs cs (drop (i + length (bs ++ cs)) s)))

-- a write at the place behind another
pub put_next : (s : List ℕ) (i j : ℕ) (bs cs : List ℕ) → i + length bs ≡ j → j + length cs ≤ length s → put (put s i bs) j cs ≡ put s i (bs ++ cs)
put_next s i j bs cs e room = subst (λ k. put (put s i bs) k cs ≡ put s i (bs ++ cs)) e (put_put s i bs cs (omega arith))
