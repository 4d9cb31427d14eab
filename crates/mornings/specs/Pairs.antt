-- What a pair has come to, as payments in lent bytes. Assumes nothing: these are definitions.
use Rattle.std.specs.Prelude.{◌≡◌, ℕ, ◌+◌, ◌*◌, ◌<◌, ◌≤◌, List, [], ◌∷◌, ◌++◌, map, length, drop, ℤ, pos, Some, None, Option, slice_index_or}
use Rattle.std.specs.Int.{int_wrap, w64}
use Rattle.deals.specs.Contract.{Morning, pick, is_zero, net}
use Rattle.deals.specs.Lines.{pair_lines, all_lines}
use Rattle.deals.specs.Payments.{Payment as Paid, written}
use Rattle.mornings.specs.declared.Start.{Start}
use Rattle.mornings.specs.declared.payments.Payment.{Payment}
use Rattle.mornings.specs.Payments.{payments_bytes}

-- a payment as its bytes have it
abbrev pub as_bytes : Paid → Payment
as_bytes p = record { from = p.from; to = p.to; currency = p.currency; amount = p.amount }

-- the payment for what the lower house of two has to pay the other in a currency, if it isn't 0; below 0 it is the other that pays
unfoldable pub payment_of : ℕ → ℕ → ℕ → ℤ → Option Payment
payment_of a b k v = pick (is_zero v) None (Some (as_bytes (written (record { low = a; high = b; currency = k; total = v }))))

-- so many payments stand at the front of the bytes, and behind them these are as they were
pub record Written (was : List ℕ) (ps : List Payment) (n : ℕ) (s : List ℕ) : Type 0 where
  pub count : n ≡ length ps
  pub bytes : s ≡ payments_bytes ps ++ drop (13 * n) was

abbrev pub listed : {X : Type 0} → Option X → List X
listed (Some x) = x ∷ []
listed None = []

-- one more payment, if there is one and room for it
abbrev pub Appended : ℕ → Option Payment → ℕ → List ℕ → List ℕ → Type 0
Appended n p n' s s' =
    (was : List ℕ) (ps : List Payment) → Written was ps n s → 13 * n + 13 * length (listed p) ≤ length was → Written was (ps ++ listed p) n' s'

abbrev pub Zeros : List ℤ → Type 0
Zeros xs = (k : ℕ) → k < length xs → slice_index_or xs k (pos 0) ≡ pos 0

-- the payments of the lines of a pair
abbrev pub pair_payments : ℕ → ℕ → ℕ → (ℕ → ℤ) → List Payment
pair_payments cs a b f = map (λ l. as_bytes (written l)) (pair_lines cs a b f)

-- the payments of a pair stand behind those before, where there is room for them, and its sums are 0; f is what 64 bits hold of the sums
pub record PairDone (was : List ℕ) (ps : List Payment) (r : ℕ) (sums' : List ℤ) (s' : List ℕ) : Type 0 where
  pub written : Written was ps r s'
  pub zeros : Zeros sums'

abbrev pub PairPaid : ℕ → ℕ → ℕ → List ℤ → List ℕ → ℕ → List ℤ → List ℕ → Type 0
PairPaid a b n sums s r sums' s' =
    (was : List ℕ) (ps : List Payment) (f : ℕ → ℤ) → Written was ps n s → ((k : ℕ) → k < length sums → int_wrap w64 (slice_index_or sums k (pos 0)) ≡ f k) →
    13 * n + 13 * length (pair_payments (length sums) a b f) ≤ length was → PairDone was (ps ++ pair_payments (length sums) a b f) r sums' s'

-- what is paid on the last of some mornings: for each two houses, the lower first, and each currency, what the deals between them come to that day, if it isn't 0
unfoldable pub net_payments : Start → List Morning → List Payment
net_payments st ms = map (λ l. as_bytes (written l)) (all_lines st.houses st.currencies (λ a b k. net ms k a b))
