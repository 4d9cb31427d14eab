-- The morning of one deal in the lent bytes, and what it adds to what a pair comes to.
use Rattle.std.proofs.Common.{◌≡◌, ℕ, ◌+◌, ◌-◌, ◌*◌, ◌<◌, ◌≤◌, List, length, get_or, ℤ, pos, ◌+ℤ◌, ◌-ℤ◌, neg_ℤ, sym, ap, ◌∙◌, subst, arith, w64}
use native.Mathlib.Nat.{add-sub_cancel_left}
use borrow.Rule.Slice.PartMut.{put_mid}
use Rattle.std.specs.Int.{int_wrap}
use Rattle.std.proofs.lemmas.List.{length-take, length-drop}
use Rattle.std.proofs.lemmas.Int.{ints, int_wrap-add_same, int_wrap-sub_right}
use Rattle.std.proofs.lemmas.Bool.{lt-ltb, le-ltb}
use Rattle.octets.specs.Octets.{field}
use Rattle.deals.specs.Residual.{come_to}
use Rattle.deals.specs.House.{held_step, owes_step}
use Rattle.deals.specs.Payments.{adds}
use Rattle.residual.specs.declared.deal.Summary.{Summary}
use Rattle.residual.specs.Deal.{Holds, Wakes}
use Rattle.settlement.specs.declared.directory.Entry.{Entry}
use Rattle.settlement.specs.Directory.{entry_of, part_of, EntryPut}
use Rattle.settlement.specs.Keeping.{WokenDeal, Netted}
use Rattle.settlement.proofs.Places.{deal_lent}

pub part_long : (s : List ℕ) (c : ℕ) → 16384 * c + 16384 ≤ length s → length (part_of s c) ≡ 12288
unfolding part_of
part_long s c fits = simp (length-take, length-drop) (omega arith)

-- the part is lent, then the entry is written
pub woken_lent : (t c : ℕ) (s s' bs : List ℕ) (due due' : List ℤ) (e : Entry) (kept : Summary) → e ≡ entry_of s c → 16384 * c + 16384 ≤ length s →
    length bs ≡ length (field (16384 * c + 12288 - 16384 * c) s (16384 * c)) → Wakes t e.kept kept (field (16384 * c + 12288 - 16384 * c) s (16384 * c)) due bs due' →
    EntryPut (put_mid (16384 * c) (16384 * c + 12288 - 16384 * c) s bs) c (record { holder = e.holder; other = e.other; kept = kept }) s' → WokenDeal t c s due s' due'
unfolding part_of held_step owes_step
woken_lent t c s s' bs due due' e kept is fits long wakes entry =
    let put = deal_lent s s' bs c (record { holder = e.holder; other = e.other; kept = kept }) fits long entry in
    let mine = subst (λ m. Wakes t e.kept kept (field m s (16384 * c)) due bs due') (add-sub_cancel_left (16384 * c) 12288) wakes in
    record {
      means = λ n h num room k.
          let m = mine n h.entries h.slots num (omega (arith, part_long s c fits)) (subst (λ z. Holds (part_of s c) z.kept h.entries h.slots) (sym is) k.left) room.rows room.entries in
          record {
            keeps =
                record {
                  holder = ap (λ z. z.holder) put.entry ∙ ap (λ z. z.holder) is ∙ k.holder;
                  other = ap (λ z. z.other) put.entry ∙ ap (λ z. z.other) is ∙ k.other;
                  left = rw (put.part, put.entry) m.holds;
                };
            paid = m.paid;
          };
      others = put.others;
    }

-- what one deal adds to what a pair comes to, by who holds it
pub netted_gives : (t c : ℕ) (s s' : List ℕ) (gets gives gives' : List ℤ) (e : Entry) → e ≡ entry_of s c → e.holder < e.other → WokenDeal t c s gives s' gives' → Netted t c s gets gives s' gets gives'
unfolding adds owes_step
netted_gives t c s s' gets gives gives' e is low w =
    record {
      means = λ n h num room apart fits keeps.
          let m = w.means n h num room keeps in
          let less : h.holder < h.other = omega (arith, ap (λ z. z.holder) is, ap (λ z. z.other) is, keeps.holder, keeps.other) in
          record {
            keeps = m.keeps;
            paid = λ k in-gets in-gives.
                simp (le-ltb h.other h.holder (omega arith))
                (sym (int_wrap-sub_right w64 (get_or gets k (pos 0)) (get_or gives' k (pos 0)))
                ∙ ap (λ z. int_wrap w64 (get_or gets k (pos 0) -ℤ z)) (m.paid k in-gives)
                ∙ int_wrap-sub_right w64 (get_or gets k (pos 0)) (get_or gives k (pos 0) +ℤ come_to k (owes_step n h).now)
                ∙ ap (int_wrap w64) (omega (arith, ints)));
          };
      others = w.others;
    }

pub netted_gets : (t c : ℕ) (s s' : List ℕ) (gets gives gets' : List ℤ) (e : Entry) → e ≡ entry_of s c → e.other ≤ e.holder → WokenDeal t c s gets s' gets' → Netted t c s gets gives s' gets' gives
unfolding adds owes_step
netted_gets t c s s' gets gives gets' e is high w =
    record {
      means = λ n h num room apart fits keeps.
          let m = w.means n h num room keeps in
          let more : h.other < h.holder = omega (arith, ap (λ z. z.holder) is, ap (λ z. z.other) is, keeps.holder, keeps.other) in
          record {
            keeps = m.keeps;
            paid = λ k in-gets in-gives.
                simp (lt-ltb h.other h.holder more)
                (int_wrap-add_same w64 (get_or gets' k (pos 0)) (get_or gets k (pos 0) +ℤ come_to k (owes_step n h).now) (neg_ℤ (get_or gives k (pos 0))) (m.paid k in-gets)
                ∙ ap (int_wrap w64) (omega (arith, ints)));
          };
      others = w.others;
    }
