-- The parts of a deal or a choice, written one behind the other. Assumes nothing.
use Rattle.std.proofs.Common.{◌≡◌, ℕ, ◌+◌, ◌-◌, ◌<◌, ◌≤◌, List, [], ◌++◌, length, take, drop, set, sym, ap, ◌∙◌, append_assoc, arith, length-append, take-append-drop}
use native.Mathlib.Nat.{add-sub_cancel_left}
use borrow.Rule.Slice.PartMut.{put_mid}
use Rattle.std.proofs.lemmas.List.{drop-drop, take_at, drop_at}
use Rattle.octets.specs.Octets.{octets_of, put, put_word}
use Rattle.octets.proofs.Words.{length_octets, length_put}
use Rattle.mornings.specs.Written.{head_octets, deal_octets, choice_octets, Wrote, InTurn, nothing_yet, and_then, in_a_row}
use Rattle.mornings.specs.Payments.{payment_bytes}
use Rattle.mornings.specs.Laws.{PiecesStand}
use Rattle.mornings.specs.declared.payments.Payment.{Payment}
use Rattle.octets.proofs.Words.{set_put}
use Rattle.mornings.proofs.Puts.{put_next}

-- a copy into a part
copy_put : (s bs text : List ℕ) (i : ℕ) → bs ≡ text → put_mid i (i + length text - i) s bs ≡ put s i text
copy_put s bs text i e = simp (e, add-sub_cancel_left, drop-drop)

put_more : (s t u : List ℕ) (i j : ℕ) (bs cs : List ℕ) → t ≡ put s i bs → u ≡ put t j cs → i + length bs ≡ j → j + length cs ≤ length s → u ≡ put s i (bs ++ cs)
put_more s t u i j bs cs et eu l room = eu ∙ ap (λ z. put z j cs) et ∙ put_next s i j bs cs l room

-- two numbers of two bytes and one of one
pub head_put : (s a b : List ℕ) (i x y z : ℕ) → i + 5 ≤ length s → z < 256 → a ≡ put_word 2 s i x → b ≡ put_word 2 a (i + 2) y → set b (i + 4) z ≡ put s i (head_octets x y z)
unfolding put_word
head_put s a b i x y z room small ea eb =
    let x1 = octets_of 2 x in
    let x2 = octets_of 2 y in
    let x3 = octets_of 1 z in
    let n1 = length_octets 2 x in
    let n2 = length_octets 2 y in
    let n3 = length_octets 1 z in
    let l2 = length-append x1 x2 in
    let two = put_more s a b i (i + 2) x1 x2 ea eb (omega arith) (omega arith) in
    let long : length b ≡ length s = ap length two ∙ length_put s i (x1 ++ x2) (omega arith) in
    put_more s b (set b (i + 4) z) i (i + 4) (x1 ++ x2) x3 two (set_put b (i + 4) z (omega arith) small) (omega arith) (omega arith) ∙ ap (put s i) (append_assoc x1 x2 x3)

pub length_head : (x y z : ℕ) → length (head_octets x y z) ≡ 5
length_head x y z =
    let x1 = octets_of 2 x in
    let x2 = octets_of 2 y in
    let x3 = octets_of 1 z in
    omega (arith, length-append x1 (x2 ++ x3), length-append x2 x3, length_octets 2 x, length_octets 2 y, length_octets 1 z)

-- a start
pub start_put : (s a : List ℕ) (i x y z : ℕ) → a ≡ put s i (head_octets x y z) → Wrote s i (head_octets x y z) a (i + 5)
start_put s a i x y z e = record { put_there = e; behind = omega (arith, length_head x y z) }

-- a payment: its head, and the amount
pub payment_put : (s a b : List ℕ) (i : ℕ) (p : Payment) → i + 13 ≤ length s → a ≡ put s i (head_octets p.from p.to p.currency) → b ≡ put_word 8 a (i + 5) p.amount → b ≡ put s i (payment_bytes p)
unfolding put_word
payment_put s a b i p room ea eb =
    let x1 = octets_of 2 p.from in
    let x2 = octets_of 2 p.to in
    let x3 = octets_of 1 p.currency in
    let x4 = octets_of 8 p.amount in
    let n = length_head p.from p.to p.currency in
    let n4 = length_octets 8 p.amount in
    put_more s a b i (i + 5) (head_octets p.from p.to p.currency) x4 ea eb (omega arith) (omega arith)
    ∙ ap (put s i) (append_assoc x1 (x2 ++ x3) x4 ∙ ap (λ w. x1 ++ w) (append_assoc x2 x3 x4))

-- one number
pub word_put : (n : ℕ) (s a : List ℕ) (i v : ℕ) → a ≡ put_word n s i v → Wrote s i (octets_of n v) a (i + n)
unfolding put_word
word_put n s a i v e = record { put_there = e; behind = ap (λ k. i + k) (sym (length_octets n v)) }

pub deal_put : (s a b c d new text : List ℕ) (i holder other day : ℕ) → i + 10 + length text ≤ length s → a ≡ put_word 2 s i holder → b ≡ put_word 2 a (i + 2) other → c ≡ put_word 4 b (i + 4) day → d ≡ put_word 2 c (i + 8) (length text) → new ≡ text → Wrote s i (deal_octets holder other day text) (put_mid (i + 10) (i + 10 + length text - (i + 10)) d new) (i + 10 + length text)
unfolding put_word
deal_put s a b c d new text i holder other day room ea eb ec ed en =
    let x1 = octets_of 2 holder in
    let x2 = octets_of 2 other in
    let x3 = octets_of 4 day in
    let x4 = octets_of 2 (length text) in
    let n1 = length_octets 2 holder in
    let n2 = length_octets 2 other in
    let n3 = length_octets 4 day in
    let n4 = length_octets 2 (length text) in
    let l2 = length-append x1 x2 in
    let l3 = length-append (x1 ++ x2) x3 in
    let l4 = length-append ((x1 ++ x2) ++ x3) x4 in
    let two = put_more s a b i (i + 2) x1 x2 ea eb (omega arith) (omega arith) in
    let three = put_more s b c i (i + 4) (x1 ++ x2) x3 two ec (omega arith) (omega arith) in
    let four = put_more s c d i (i + 8) ((x1 ++ x2) ++ x3) x4 three ed (omega arith) (omega arith) in
    let m1 = length-append x1 (x2 ++ (x3 ++ (x4 ++ text))) in
    let m2 = length-append x2 (x3 ++ (x4 ++ text)) in
    let m3 = length-append x3 (x4 ++ text) in
    let m4 = length-append x4 text in
    record {
      put_there = put_more s d _ i (i + 10) (((x1 ++ x2) ++ x3) ++ x4) text four (copy_put d new text (i + 10) en) (omega arith) (omega arith)
          ∙ ap (put s i) (append_assoc ((x1 ++ x2) ++ x3) x4 text ∙ append_assoc (x1 ++ x2) x3 (x4 ++ text) ∙ append_assoc x1 x2 (x3 ++ (x4 ++ text)));
      behind = omega arith;
    }

pub choice_put : (s a new way : List ℕ) (i deal : ℕ) → i + 5 + length way ≤ length s → length way < 256 → a ≡ put_word 4 s i deal → new ≡ way → Wrote s i (choice_octets deal way) (put_mid (i + 5) (i + 5 + length way - (i + 5)) (set a (i + 4) (length way)) new) (i + 5 + length way)
unfolding put_word
choice_put s a new way i deal room small ea en =
    let x1 = octets_of 4 deal in
    let x2 = octets_of 1 (length way) in
    let n1 = length_octets 4 deal in
    let n2 = length_octets 1 (length way) in
    let l2 = length-append x1 x2 in
    let long : length a ≡ length s = ap length ea ∙ length_put s i x1 (omega arith) in
    let two = put_more s a (set a (i + 4) (length way)) i (i + 4) x1 x2 ea (set_put a (i + 4) (length way) (omega arith) small) (omega arith) (omega arith) in
    let m1 = length-append x1 (x2 ++ way) in
    let m2 = length-append x2 way in
    record {
      put_there = put_more s (set a (i + 4) (length way)) _ i (i + 5) (x1 ++ x2) way two (copy_put (set a (i + 4) (length way)) new way (i + 5) en) (omega arith) (omega arith)
          ∙ ap (put s i) (append_assoc x1 x2 way);
      behind = omega arith;
    }

-- PIECES ONE AFTER THE OTHER ARE ONE

put_none : (s : List ℕ) (i : ℕ) → s ≡ put s i []
put_none s i = let e : i ≡ i + 0 = omega arith in sym (take-append-drop i s) ∙ ap (λ k. take i s ++ drop k s) e

in_turn_put : (pieces : List (List ℕ)) (s u : List ℕ) (i k : ℕ) → i + length (in_a_row pieces) ≤ length s → InTurn pieces s i u k → (u ≡ put s i (in_a_row pieces)) × (k ≡ i + length (in_a_row pieces))
in_turn_put _ s _ i _ room nothing_yet = (put_none s i, omega arith)
in_turn_put _ s u i k room (and_then {piece} {pieces} {t = t} {j = j} w rest) =
    let long = length-append piece (in_a_row pieces) in
    let kept : length t ≡ length s = ap length w.put_there ∙ length_put s i piece (omega arith) in
    let ih = in_turn_put pieces t u j k (omega (arith, w.behind)) rest in (
      put_more s t u i j piece (in_a_row pieces) w.put_there ih.0 (sym w.behind) (omega (arith, w.behind)),
      omega (arith, ih.1, w.behind),
    )

pub pieces_stand : PiecesStand
pieces_stand pieces s u k room h =
    let bs = in_a_row pieces in
    let r = in_turn_put pieces s u 0 k (omega arith) h in
    let e : length bs ≡ k = omega (arith, r.1) in
    let whole : u ≡ bs ++ drop k s = r.0 ∙ ap (λ n. bs ++ drop n s) (sym r.1) in
    (ap (take k) whole ∙ take_at bs (drop k s) k e, sym e, ap (drop k) whole ∙ drop_at bs (drop k s) k e)
