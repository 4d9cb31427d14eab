-- What lies behind a deal's 12,288 bytes is of no account.
use Rattle.std.proofs.Common.{◌≡◌, ℕ, ◌+◌, ◌≤◌, List, ◌++◌, length, take, drop, sym, ap, ◌∙◌, arith}
use Rattle.std.proofs.lemmas.List.{length-drop, length-take-le, take-append-drop, take-append-le, drop-append-le}
use Rattle.octets.specs.Octets.{number_of, word}
use Rattle.deals.specs.Shared.{Entry, Slot}
use Rattle.residual.specs.declared.deal.Summary.{Summary}
use Rattle.residual.specs.Deal.{Holds}
use Rattle.residual.proofs.Writes.{row_cell, node_cell, above_cell}
use Rattle.residual.proofs.Standing.{rows_same, table_same}

word_front : (s rest : List ℕ) (m j : ℕ) → j + m ≤ length s → word m (s ++ rest) j ≡ word m s j
unfolding word
word_front s rest m j within = ap number_of (ap (take m) (drop-append-le j s rest (omega arith)) ∙ take-append-le m (drop j s) rest (omega (arith, length-drop j s)))

holds_same : (s s' : List ℕ) (k : Summary) (es : List Entry) (slots : List Slot) → ((m j : ℕ) → j + m ≤ 12288 → word m s' j ≡ word m s j) → Holds s k es slots → Holds s' k es slots
holds_same s s' k es slots same h =
    record {
      rows_are = h.rows_are;
      wake_is = h.wake_is;
      few = h.few;
      stands = λ some.
          let left = h.stands some in
          record {
            rows_are = left.rows_are;
            used_are = left.used_are;
            wake_is = left.wake_is;
            table = table_same s s' es (λ j le. above_cell s s' j (λ lt m q ge within. same m q (omega arith))) left.table;
            inside = left.inside;
            rows = rows_same s s' (λ i. node_cell s s' i (λ lt m q ge within. same m q (omega arith))) 0 slots (λ k lt. row_cell s s' k (λ m q ge within. same m q (omega (arith, h.few)))) left.rows;
          };
    }

-- more bytes behind it, and none
pub holds_more : (s rest : List ℕ) (k : Summary) (es : List Entry) (slots : List Slot) → length s ≡ 12288 → Holds s k es slots → Holds (s ++ rest) k es slots
holds_more s rest k es slots long h = holds_same s (s ++ rest) k es slots (λ m j within. word_front s rest m j (omega arith)) h

pub holds_front : (s : List ℕ) (k : Summary) (es : List Entry) (slots : List Slot) → 12288 ≤ length s → Holds s k es slots → Holds (take 12288 s) k es slots
holds_front s k es slots long h =
    holds_same s (take 12288 s) k es slots
    (λ m j within. sym (word_front (take 12288 s) (drop 12288 s) m j (omega (arith, length-take-le 12288 s long))) ∙ ap (λ z. word m z j) (take-append-drop 12288 s)) h
