-- The first words of nodes, and how long they are. Assumes nothing.
use Rattle.std.proofs.Common.{◌≡◌, ℕ, zero, suc, ◌<◌, ◌≤◌, List, ◌++◌, length, ℤ, nat_abs, Some, codes, arith, length-append}
use Rattle.std.proofs.lemmas.Bool.{le-leb}
use Rattle.texts.specs.Written.{written_number, written_amount, written_rate}
use Rattle.texts.specs.Spelling.{first_word, day_word, between_word, scale_word, behind_word}
use Rattle.texts.specs.declared.nodes.Node.{Node}
use Rattle.texts.specs.declared.nodes.Node.TheVariants.{Nothing, Pays, Turned, Both, Choice, If, Of, On, When, By, Fixed, Rate, Day, Plus, Minus, Times, Max, Less}
use Rattle.texts.proofs.Laying.{word_length, amount_length}

pub first_pays : (k : ℕ) (a : ℤ) → k < 18446744073709551616 → nat_abs a ≤ 9223372036854775807 →
    first_word (Pays k a) ≡ Some (codes "pays " ++ (written_amount a ++ (codes " " ++ written_number k)))
first_pays k a h l = rw (le-leb k 18446744073709551615 (omega arith), le-leb (nat_abs a) 9223372036854775807 l)

pub first_fixed : (a : ℤ) → nat_abs a ≤ 9223372036854775807 → first_word (Fixed a) ≡ Some (written_amount a)
first_fixed a l = rw (le-leb (nat_abs a) 9223372036854775807 l)

pub first_rate : (k n : ℕ) → k < 18446744073709551616 → n < 18446744073709551616 → first_word (Rate k n) ≡ Some (written_rate k n)
first_rate k n h l = rw (le-leb k 18446744073709551615 (omega arith), le-leb n 18446744073709551615 (omega arith))

pub first_on : (d : ℕ) → d < 18446744073709551616 → first_word (On d) ≡ Some (day_word (codes "on ") d)
first_on d h = rw (le-leb d 18446744073709551615 (omega arith))

pub first_by : (d : ℕ) → d < 18446744073709551616 → first_word (By d) ≡ Some (day_word (codes "by ") d)
first_by d h = rw (le-leb d 18446744073709551615 (omega arith))

-- at most 47 bytes
pub pays_short : (k : ℕ) (a : ℤ) → k < 18446744073709551616 → nat_abs a < 9223372036854775808 → length (codes "pays " ++ (written_amount a ++ (codes " " ++ written_number k))) ≤ 47
pays_short k a h l =
    omega (arith, length-append (written_amount a) (codes " " ++ written_number k), amount_length a (omega arith), word_length k h)

pub rate_short : (k n : ℕ) → k < 18446744073709551616 → n < 18446744073709551616 → length (written_rate k n) ≤ 47
rate_short k zero h l = omega (arith, word_length k h)
rate_short k (suc n) h l = omega (arith, length-append (written_number k) (codes " " ++ written_number (suc n)), word_length k h, word_length (suc n) l)

pub day_short : (word : List ℕ) (d : ℕ) → length word ≤ 20 → d < 18446744073709551616 → length (day_word word d) ≤ 47
day_short word d w h = omega (arith, length-append word (written_number d ++ codes ": "), length-append (written_number d) (codes ": "), word_length d h)

pub between_short : (node : Node) → length (between_word node) ≤ 6
between_short Nothing = omega arith
between_short (Pays k a) = omega arith
between_short Turned = omega arith
between_short Both = omega arith
between_short Choice = omega arith
between_short If = omega arith
between_short Of = omega arith
between_short (On d) = omega arith
between_short When = omega arith
between_short (By d) = omega arith
between_short (Fixed a) = omega arith
between_short (Rate k n) = omega arith
between_short Day = omega arith
between_short Plus = omega arith
between_short Minus = omega arith
between_short Times = omega arith
between_short Max = omega arith
between_short Less = omega arith

pub scale_short : (node : Node) → length (scale_word node) ≤ 6
scale_short Nothing = omega arith
scale_short (Pays k a) = omega arith
scale_short Turned = omega arith
scale_short Both = omega arith
scale_short Choice = omega arith
scale_short If = omega arith
scale_short Of = omega arith
scale_short (On d) = omega arith
scale_short When = omega arith
scale_short (By d) = omega arith
scale_short (Fixed a) = omega arith
scale_short (Rate k n) = omega arith
scale_short Day = omega arith
scale_short Plus = omega arith
scale_short Minus = omega arith
scale_short Times = omega arith
scale_short Max = omega arith
scale_short Less = omega arith

pub behind_short : (node : Node) → length (behind_word node) ≤ 1
behind_short Nothing = omega arith
behind_short (Pays k a) = omega arith
behind_short Turned = omega arith
behind_short Both = omega arith
behind_short Choice = omega arith
behind_short If = omega arith
behind_short Of = omega arith
behind_short (On d) = omega arith
behind_short When = omega arith
behind_short (By d) = omega arith
behind_short (Fixed a) = omega arith
behind_short (Rate k n) = omega arith
behind_short Day = omega arith
behind_short Plus = omega arith
behind_short Minus = omega arith
behind_short Times = omega arith
behind_short Max = omega arith
behind_short Less = omega arith
