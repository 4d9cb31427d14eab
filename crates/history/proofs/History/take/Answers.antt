use Rattle.std.proofs.Common.{◌≡◌, ◌+◌, ◌*◌, min, [], ◌∷◌, ◌++◌, length, ap, ap₂, ◌∙◌, subst, arith, length-append}
use Rattle.deals.specs.Contract.{Morning, all_deals}
use Rattle.texts.specs.declared.stages.Stage.TheVariants.{All}
use Rattle.mornings.specs.Payments.{payments_bytes}
use Rattle.mornings.specs.Judgement.{LaidOut}
use Rattle.mornings.specs.Pairs.{net_payments}
use Rattle.replay.specs.Standing.{MorningsStand}
use Rattle.replay.proofs.Anew.{stands_anew_lem}
use Rattle.history.proofs.Kept.{in_time, deals_more, few_deals, written_all, cut_behind}
use Rattle.history.proofs.History.take.Goals as goal

pub returns : goal.returns
returns c =
    let same = c.make_room.ensures.same in
    let room = c.in_ok-make_room.ensures.room in
    let h = c.args.self.now in
    let s = c.args.bytes.now in
    let ends = c.in_ok-parts.parts in
    record {
      start = same.start;
      answers = λ ms stands.
          let day : c.min-day.result ≡ length ms = omega (arith, stands.in_time, stands.mornings.many) in
          let judged = c.in_ok-parts.ensures in
          let m : Morning = judged.0 in
          let laid : LaidOut All h.start (length ms) (length (all_deals ms)) s ends m =
          subst (λ d. LaidOut All h.start d (length (all_deals ms)) s ends m) day (subst (λ n. LaidOut All h.start c.min-day.result n s ends m) stands.deals judged.1) in
          let few = few_deals h.start s ms ends m laid stands.few in
          let more = deals_more h.start s ms ends m laid in
          let many : length (ms ++ m ∷ []) ≡ length ms + 1 = length-append ms (m ∷ []) in
          let from : c.len-from.result ≡ length h.kept.items = omega (arith, c.len-from.ensures, c.make_room.new.self.kept.ok, ap length same.kept) in
          let to : c.len-to.result ≡ length h.kept.items + length s = omega (arith, c.len-to.ensures, c.in_ok-extend_from_slice.ensures.len, c.make_room.new.self.kept.ok, ap length same.kept) in
          let kept : c.extend_from_slice.new.self.items ≡ h.kept.items ++ s = c.in_ok-extend_from_slice.ensures.items ∙ ap (λ z. z ++ s) same.kept in
          let days : c.push.new.self.items ≡ h.days.items ++ record { from = length h.kept.items; to = length h.kept.items + length s; parts = ends } ∷ [] =
          c.in_ok-push.ensures.items ∙ ap₂ (λ z d. z ++ d ∷ []) same.days (ap₂ (λ a b. record { from = a; to = b; parts = ends }) from to) in
          let stand : MorningsStand c.make_room.new.self.start c.extend_from_slice.new.self.items c.push.new.self.items (ms ++ m ∷ []) =
          rw (same.start, kept, days) (stands_anew_lem.1 h.start h.kept.items s h.days.items ms ends m stands.mornings laid) in
          let so_far : c.make_room.new.self.so_far ≡ length (all_deals ms) = same.deals ∙ stands.deals in
          let all : c.make_room.new.self.so_far + ends.deals ≡ length (all_deals (ms ++ m ∷ [])) = omega (arith, so_far, more) in
          let payments_long : length c.as_mut_slice-3.result.now ≡ 13 * (length (all_deals (ms ++ m ∷ [])) * c.make_room.new.self.start.currencies) =
          ap length c.as_mut_slice-3.ensures.value ∙ room.payments_long ∙ ap (λ n. 13 * (n * c.make_room.new.self.start.currencies)) all in
          let written = written_all c.as_slice.result.now c.as_slice-2.result.now c.make_room.new.self.start (length c.as_mut_slice.result.now) (length c.as_mut_slice-2.result.now) c.as_mut_slice-3.result.now
          c.pay_day.result c.pay_day.new.payments (ms ++ m ∷ []) c.pay_day.ensures (rw (c.as_slice.ensures.value, c.as_slice-2.ensures.value) stand) (omega (arith, many))
          (omega (arith, ap length c.as_mut_slice.ensures.value, room.deals_long, so_far, more)) (omega (arith, ap length c.as_mut_slice-2.ensures.value, room.keys_long, so_far, more)) payments_long in
          record {
            morning = m;
            read = laid.whole;
            stands = record { mornings = stand; deals = omega (arith, c.saturating_add-self.ensures, so_far, more, few); few = omega (arith, more, few); in_time = omega (arith, many, in_time h.start s ms ends m laid) };
            pays = c.truncate.ensures.items
                ∙ cut_behind c.as_mut_slice-3.result.now c.pay_day.new.payments _ _ _ _ _ written (c.saturating_mul.ensures ∙ ap (λ n. min (n * 13) 18446744073709551615) c.unwrap_or-count.ensures)
                (omega (arith, c.pay_day.auto.payments, c.as_mut_slice-3.ensures.len)) (omega (arith, c.make_room.new.self.payments.small))
                ∙ ap (λ st. payments_bytes (net_payments st (ms ++ m ∷ []))) same.start;
          };
    }
