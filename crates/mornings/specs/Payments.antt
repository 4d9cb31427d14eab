-- Payments in bytes, 13 each. Assumes nothing: these are definitions.
use Rattle.std.specs.Prelude.{◌≡◌, ℕ, ◌+◌, ◌*◌, ◌<◌, ◌≤◌, ◌≢◌, List, [], ◌∷◌, ◌++◌, map, length, take, drop, ℤ, pos, ◌+ℤ◌, slice_index_or}
use Rattle.std.specs.List.{range_with_len, AllByRecursion, flat_map}
use Rattle.deals.specs.Payments.{Payment as Paid, paid}
use Rattle.octets.specs.Octets.{octets_of, word, put}
use Rattle.mornings.specs.declared.payments.Payment.{Payment}

-- who pays, who is paid, the currency, the amount
abbrev pub payment_bytes : Payment → List ℕ
payment_bytes p = octets_of 2 p.from ++ (octets_of 2 p.to ++ (octets_of 1 p.currency ++ octets_of 8 p.amount))

abbrev pub payments_bytes : List Payment → List ℕ
payments_bytes ps = flat_map payment_bytes ps

-- the payment that stands at a place
abbrev pub payment_at : List ℕ → ℕ → Payment
payment_at s i = record { from = word 2 s i; to = word 2 s (i + 2); currency = word 1 s (i + 4); amount = word 8 s (i + 5) }

-- some payments stand at the front of the bytes
abbrev pub Holds : List ℕ → List Payment → Type 0
Holds s ps = take (13 * length ps) s ≡ payments_bytes ps

-- an amount above 0, and numbers that the bytes have room for
pub record PaymentFits (p : Payment) : Type 0 where
  pub above : 0 < p.amount
  pub from : p.from < 65536
  pub to : p.to < 65536
  pub currency : p.currency < 256
  pub amount : p.amount < 18446744073709551616

-- a payment written behind some others stands behind them, and the bytes behind it are as they were
abbrev pub OneMore : Type 0
OneMore =
    (s : List ℕ) (ps : List Payment) (p : Payment) → 13 * length ps + 13 ≤ length s → Holds s ps →
    Holds (put s (13 * length ps) (payment_bytes p)) (ps ++ p ∷ []) × (drop (13 * length ps + 13) (put s (13 * length ps) (payment_bytes p)) ≡ drop (13 * length ps + 13) s)

-- what stands among the bytes is read again
abbrev pub ReadAgain : Type 0
ReadAgain = (s : List ℕ) (ps : List Payment) (k : ℕ) (p : Payment) → AllByRecursion PaymentFits ps → Holds s ps → k < length ps → payment_at s (13 * k) ≡ slice_index_or ps k p

-- WHAT PAYMENT BYTES SAY

-- a payment, as the meaning has it
abbrev pub paid_as : Payment → Paid
paid_as p = record { from = p.from; to = p.to; currency = p.currency; amount = p.amount }

-- the first n payments in the bytes
abbrev pub payments_in : ℕ → List ℕ → List Paid
payments_in n s = map (λ k. paid_as (payment_at s (13 * k))) (range_with_len 0 n)

-- what a pays to b in a currency, by the first n payments in the bytes; below 0 it is b that pays
abbrev pub bytes_pay : ℕ → List ℕ → ℕ → ℕ → ℕ → ℤ
bytes_pay n s k a b = paid k a b (payments_in n s)

-- what one pays the other gets
abbrev pub BytesTwoSided : Type 0
BytesTwoSided = (n : ℕ) (s : List ℕ) (k a b : ℕ) → a ≢ b → bytes_pay n s k a b +ℤ bytes_pay n s k b a ≡ pos 0

-- payments that stand in bytes are what the bytes say, each with an amount above 0
abbrev pub BytesSay : Type 0
BytesSay =
    (s : List ℕ) (ps : List Payment) → AllByRecursion PaymentFits ps → Holds s ps →
    (payments_in (length ps) s ≡ map paid_as ps) × AllByRecursion (λ p. 0 < p.amount) (payments_in (length ps) s)
