-- One morning more: how many deals there are then, and that there is room for them.
use Rattle.std.proofs.Common.{◌≡◌, ℕ, ◌+◌, ◌-◌, ◌*◌, ◌<◌, ◌≤◌, min, List, [], ◌∷◌, ◌++◌, length, take, drop, Ok, Err, Result, sym, ap, ◌∙◌, arith, length-append, append_assoc}
use Rattle.std.proofs.Math.Seq.{take-append_seam, take-append-add}
use Rattle.std.specs.Result.{result_unwrap_or}
use Rattle.deals.specs.Contract.{Morning, all_deals}
use Rattle.texts.specs.declared.stages.Stage.TheVariants.{All}
use Rattle.mornings.specs.Payments.{payments_bytes}
use Rattle.mornings.specs.declared.payments.Payment.{Payment}
use Rattle.replay.specs.declared.days.DayAt.{DayAt}
use Rattle.replay.specs.declared.settle.Short.{Short}
use Rattle.replay.specs.declared.settle.Short.TheVariants.{Deals, Keys, Payments}
use Rattle.mornings.specs.Pairs.{Written, net_payments}
use Rattle.replay.specs.Standing.{DayPaid, MorningsStand}
use Rattle.mornings.proofs.Writing.{length_bytes}
use Rattle.mornings.specs.Judgement.{DealRead, LaidOut}
use Rattle.mornings.specs.declared.Start.{Start}
use Rattle.mornings.specs.declared.Ends.{Ends}
use Rattle.mornings.proofs.Fits.{row_length, deals_room, on_a_day}

deals_after : (ms : List Morning) (m : Morning) → length (all_deals (ms ++ m ∷ [])) ≡ length (all_deals ms) + length m.deals
unfolding all_deals
deals_after [] m = length-append m.deals [] ∙ omega arith
deals_after (k ∷ ms) m = omega (arith, length-append k.deals (all_deals (ms ++ m ∷ [])), length-append k.deals (all_deals ms), deals_after ms m)

module _ (st : Start) (s : List ℕ) (ms : List Morning) (ends : Ends) (m : Morning) (laid : LaidOut All st (length ms) (length (all_deals ms)) s ends m) where
  pub in_time : length ms < 65536
  in_time = on_a_day laid.whole

  pub deals_more : length (all_deals (ms ++ m ∷ [])) ≡ length (all_deals ms) + ends.deals
  deals_more = omega (arith, deals_after ms m, row_length (DealRead All st (length ms)) s ends.deals (length (all_deals ms)) 2 m.deals ends.rates_at laid.deals)

  pub few_deals : length (all_deals ms) ≤ 65536 → length (all_deals ms) + ends.deals ≤ 65536
  few_deals some = deals_room All st (length ms) s ends.deals (length (all_deals ms)) 2 m.deals ends.rates_at some laid.deals

-- where each slice is as long as it has to be, the payments are written
pub written_all : (kept : List ℕ) (days : List DayAt) (st : Start) (deals keys : ℕ) (was : List ℕ) (r : Result ℕ Short) (s : List ℕ) (ms : List Morning) →
    DayPaid kept days st deals keys was r s → MorningsStand st kept days ms → 1 ≤ length ms → deals ≡ length (all_deals ms) → keys ≡ length (all_deals ms) →
    length was ≡ 13 * (length (all_deals ms) * st.currencies) → Written was (net_payments st ms) (result_unwrap_or r 0) s
written_all kept days st deals keys was (Ok n) s ms paid stand some d k p = paid ms stand some
written_all kept days st deals keys was (Err Deals) s ms paid stand some d k p = let short = paid.1 ms stand some in absurd (omega arith)
written_all kept days st deals keys was (Err Keys) s ms paid stand some d k p = let short = paid.1 ms stand some in absurd (omega arith)
written_all kept days st deals keys was (Err Payments) s ms paid stand some d k p = let short = paid.1 ms stand some in absurd (omega arith)

-- what is written at the front of some bytes is there when they are cut behind it
pub cut_behind : (was s rest : List ℕ) (ps : List Payment) (count k room : ℕ) → Written was ps count s → k ≡ min (count * 13) 18446744073709551615 → length s ≤ room → room ≤ 18446744073709551615 →
    take k (take room (s ++ rest)) ≡ payments_bytes ps
cut_behind was s rest ps count k room w cut within fits =
    let paid = payments_bytes ps in
    let behind = drop (13 * count) was in
    let long : length paid ≡ 13 * count = length_bytes ps ∙ ap (λ n. 13 * n) (sym w.count) in
    let all : length s ≡ length paid + length behind = ap length w.bytes ∙ length-append paid behind in
    let at : k ≡ length paid = omega (arith, cut, long, all, within, fits) in
    let front : s ++ rest ≡ paid ++ (behind ++ rest) = ap (λ z. z ++ rest) w.bytes ∙ append_assoc paid behind rest in
    let far : room ≡ length paid + (room - length paid) = omega (arith, all, within) in
    ap (take k) (ap (take room) front ∙ ap (λ n. take n (paid ++ (behind ++ rest))) far ∙ take-append-add paid (behind ++ rest) (room - length paid))
    ∙ ap (λ n. take n (paid ++ take (room - length paid) (behind ++ rest))) at ∙ take-append_seam paid (take (room - length paid) (behind ++ rest))
