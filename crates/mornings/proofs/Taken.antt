-- Starts and mornings as they are written are taken; two are never written alike. Assumes nothing.
use Rattle.std.proofs.Common.{◌≡◌, ℕ, ◌%◌, ◌^◌, ◌<◌, ◌≤◌, true, List, [], ◌∷◌, ◌++◌, map, length, take, ℤ, pos, negsuc, nat_abs, sym, refl, ap, ◌∙◌, subst, arith, length-append, w64, SFits, to_z, of_z}
use Rattle.std.specs.List.{AllByRecursion}
use Rattle.std.proofs.lemmas.List.{take_at, drop_at}
use Rattle.std.proofs.lemmas.Int.{to_z-of_z}
use Rattle.deals.specs.Contract.{Contract, Deal, Choice, Morning}
use Rattle.octets.specs.Octets.{octets_of, field}
use Rattle.texts.specs.Bounds.{TextTaken}
use Rattle.texts.proofs.Verdicts.{has_taken}
use Rattle.texts.specs.Written.{written}
use Rattle.texts.specs.Stages.{built_at}
use Rattle.texts.specs.declared.stages.Stage.{Stage}
use Rattle.mornings.specs.Verdict.{taken, goes, Row, ends}
use Rattle.mornings.specs.Judgement.{TextRead, a_contract, few, DealFields, DealRead, RateRead, StepRead, ChoiceRead, StartRead, MorningFields, MorningRead}
use Rattle.mornings.specs.Written.{StartFits, Each, none, more, in_a_row, start_bytes, deal_octets, rate_octets, choice_octets, DealWritten, RateWritten, ChoiceWritten, MorningWritten}
use Rattle.mornings.specs.Laws.{WrittenTaken, EveryTaken, PiecesJudged, NeverSame}
use Rattle.mornings.specs.declared.Start.{Start}
use Rattle.mornings.proofs.Chains.{pieces_stand}
use Rattle.mornings.proofs.InBounds.{DealFits, ChoiceFits, MorningFits, fits_piecewise}
use Rattle.mornings.proofs.Sole.{morning_sole}
use Rattle.mornings.proofs.Writes.{Writes, Closes, field_writes, number_writes, then_writes, then_last, then_closes, end_closes, row_writes, row_with, row_append}

text_writes : (stage : Stage) (st : Start) (x : Contract) (text : List ℕ) → TextTaken st.rates st.currencies text x → built_at stage x ≡ true → Writes (TextRead stage st (length text)) x text
text_writes stage st x text t b p u =
    let part : text ≡ field (length text) (p ++ (text ++ u)) (length p) = sym (ap (take (length text)) (drop_at p (text ++ u) (length p) refl) ∙ take_at text u (length text) refl) in
    a_contract x t.short (omega (arith, length-append p (text ++ u), length-append text u)) (subst (λ w. TextTaken st.rates st.currencies w x) part t) b

deal_writes : (stage : Stage) (st : Start) (day : ℕ) → StartFits st → (d : Deal) (bs : List ℕ) → DealFits stage st day d → DealWritten d bs → Writes (DealFields stage st day) d bs
deal_writes stage st day sf d bs f (text, t, small, e) =
    subst (Writes (DealFields stage st day) d) (sym e)
    (then_writes _ _ d.holder d (octets_of 2 d.holder) (number_writes 2 _ d.holder (omega (arith, sf.houses, f.holder)) f.holder) _
    (then_writes _ _ d.other d (octets_of 2 d.other) (number_writes 2 _ d.other (omega (arith, sf.houses, f.other)) (f.other, f.two)) _
    (then_writes _ _ d.from d (octets_of 4 d.from) (number_writes 4 _ d.from (omega (arith, f.from)) (f.not_over, f.from)) _
    (then_writes _ _ (length text) d (octets_of 2 (length text)) (number_writes 2 _ (length text) (omega arith) tt) _
    (then_last _ _ d.contract d text (text_writes stage st d.contract text (record { short = small; text_of = t; fits = f.contract }) f.built) (λ s j. refl))))))

rate_bits : (a : ℤ) → nat_abs a ≤ 1000000000 → SFits w64 a × (of_z w64 a < 256 ^ 8)
rate_bits (pos n) h = (record { sfits = omega arith }, omega arith)
rate_bits (negsuc n) h = (record { sfits = omega arith }, omega arith)

rate_writes : (a : ℤ) (bs : List ℕ) → nat_abs a ≤ 1000000000 → RateWritten a bs → Writes RateRead a bs
rate_writes a bs small e =
    let bits = rate_bits a small in
    subst (Writes RateRead a) (sym e) (field_writes 8 (to_z w64) _ a (of_z w64 a) (sym (to_z-of_z w64 a bits.0)) bits.1 small)

step_writes : (b : ℕ) (bs : List ℕ) → b ≤ 1 → bs ≡ b ∷ [] → Writes StepRead b bs
unfolding octets_of
step_writes b bs small e =
    let one : b % 256 ≡ b = omega arith in
    subst (Writes StepRead b) (ap (λ z. z ∷ []) one ∙ sym e) (number_writes 1 _ b (omega arith) small)

-- the bytes of a way are its steps
abbrev way_pieces : List ℕ → List (List ℕ)
way_pieces way = map (λ b. b ∷ []) way

way_row : (way : List ℕ) → AllByRecursion (λ b. b ≤ 1) way → Each (λ b bs. (b ≤ 1) × (bs ≡ b ∷ [])) way (way_pieces way)
way_row [] h = none
way_row (b ∷ bs) h = more (h.0, refl) (way_row bs h.1)

way_joined : (way : List ℕ) → in_a_row (way_pieces way) ≡ way
way_joined [] = refl
way_joined (b ∷ bs) = ap (λ z. b ∷ z) (way_joined bs)

way_writes : (way : List ℕ) → AllByRecursion (λ b. b ≤ 1) way → Writes (Row (length way) (λ _. StepRead) 0) way way
way_writes way h =
    subst (Writes (Row (length way) (λ _. StepRead) 0) way) (way_joined way)
    (row_writes (λ _. StepRead) _ (length way) (λ k b cs lt w. step_writes b cs w.0 w.1) way (way_pieces way) 0 (omega arith) (way_row way h))

choice_writes : (c : Choice) (bs : List ℕ) → ChoiceFits c → ChoiceWritten c bs → Writes ChoiceRead c bs
choice_writes c bs f e =
    subst (Writes ChoiceRead c) (sym e)
    (then_writes _ _ c.of c (octets_of 4 c.of) (number_writes 4 _ c.of (omega (arith, f.deal)) f.deal) _
    (then_writes _ _ (length c.at) c (octets_of 1 (length c.at)) (number_writes 1 _ (length c.at) (omega (arith, f.long)) f.long) _
    (then_last _ _ c.at c c.at (way_writes c.at f.steps) (λ s j. refl))))

module _ (stage : Stage) (st : Start) (day so_far : ℕ) (sf : StartFits st) (m : Morning) (f : MorningFits stage st day so_far m) where
  deals_write : (bs : List (List ℕ)) → Each DealWritten m.deals bs → Writes (Row (length m.deals) (DealRead stage st day) so_far) m.deals (in_a_row bs)
  deals_write bs h =
      row_writes (DealRead stage st day) (λ d cs. DealFits stage st day d × DealWritten d cs) 65536 (λ c d cs lt w p t. few lt (deal_writes stage st day sf d cs w.0 w.1 p t)) m.deals bs so_far f.room
      (row_with (DealFits stage st day) DealWritten m.deals bs f.deals h)

  rates_write : (bs : List (List ℕ)) → Each RateWritten m.day.rates bs → Writes (Row st.rates (λ _. RateRead) 0) m.day.rates (in_a_row bs)
  rates_write bs h =
      let w : Writes (Row (length m.day.rates) (λ _. RateRead) 0) m.day.rates (in_a_row bs) =
      row_writes (λ _. RateRead) (λ a cs. (nat_abs a ≤ 1000000000) × RateWritten a cs) (length m.day.rates) (λ c a cs lt w. rate_writes a cs w.0 w.1) m.day.rates bs 0 (omega arith)
      (row_with (λ a. nat_abs a ≤ 1000000000) RateWritten m.day.rates bs f.rates h) in
      subst (λ n. Writes (Row n (λ _. RateRead) 0) m.day.rates (in_a_row bs)) f.all_rates w

  choices_write : (bs : List (List ℕ)) → Each ChoiceWritten m.day.choices bs → Writes (Row (length m.day.choices) (λ _. ChoiceRead) 0) m.day.choices (in_a_row bs)
  choices_write bs h =
      row_writes (λ _. ChoiceRead) (λ a cs. ChoiceFits a × ChoiceWritten a cs) (length m.day.choices) (λ c a cs lt w. choice_writes a cs w.0 w.1) m.day.choices bs 0 (omega arith)
      (row_with ChoiceFits ChoiceWritten m.day.choices bs f.choices h)

  morning_closes : (s : List ℕ) → MorningWritten m s → Closes (MorningFields stage st day so_far) m s
  morning_closes s (pieces, w, e) =
      let deals-of = octets_of 2 (length m.deals) in
      let choices-of = octets_of 2 (length m.day.choices) in
      let whole : s ≡ deals-of ++ (in_a_row w.deal_pieces ++ (in_a_row w.rate_pieces ++ (choices-of ++ in_a_row w.choice_pieces))) =
      e ∙ ap in_a_row w.in_order
      ∙ ap (λ z. deals-of ++ z) (row_append w.deal_pieces (w.rate_pieces ++ (choices-of ∷ w.choice_pieces)) ∙ ap (λ z. in_a_row w.deal_pieces ++ z) (row_append w.rate_pieces (choices-of ∷ w.choice_pieces))) in
      subst (Closes (MorningFields stage st day so_far) m) (sym whole)
      (then_closes _ _ (length m.deals) m deals-of (number_writes 2 _ (length m.deals) (omega (arith, f.new_deals)) tt) _
      (then_closes _ _ m.deals m (in_a_row w.deal_pieces) (deals_write w.deal_pieces w.deals) _
      (then_closes _ _ m.day.rates m (in_a_row w.rate_pieces) (rates_write w.rate_pieces w.rates) _
      (then_closes _ _ (length m.day.choices) m choices-of (number_writes 2 _ (length m.day.choices) (omega (arith, f.all_choices)) tt) _
      (end_closes _ _ m.day.choices m (in_a_row w.choice_pieces) (choices_write w.choice_pieces w.choices) (λ s j le. goes (ends le) refl))))))

  morning_taken : (s : List ℕ) → MorningWritten m s → MorningRead stage st day so_far s 0 (taken m (length s))
  morning_taken s w = few f.in_time (morning_closes s w [])

start_taken : (st : Start) → StartFits st → StartRead (start_bytes st) 0 (taken st (length (start_bytes st)))
start_taken st f =
    then_closes _ _ st.houses st (octets_of 2 st.houses) (number_writes 2 _ st.houses (omega (arith, f.houses)) f.houses) _
    (then_closes _ _ st.rates st (octets_of 2 st.rates) (number_writes 2 _ st.rates (omega (arith, f.rates)) f.rates) _
    (end_closes _ _ st.currencies st (octets_of 1 st.currencies) (number_writes 1 _ st.currencies (omega (arith, f.currencies)) f.currencies) (λ s j le. goes (ends le) refl)))
    []

pub written_taken : WrittenTaken
written_taken = (start_taken, λ stage st day so_far m s sf b w. morning_taken stage st day so_far sf m (fits_piecewise stage st day so_far m b) s w)

taken_once : (stage : Stage) (st : Start) (day so_far : ℕ) (m n : Morning) (s : List ℕ) (j k : ℕ) → MorningRead stage st day so_far s 0 (taken m j) → MorningRead stage st day so_far s 0 (taken n k) → m ≡ n
taken_once stage st day so_far m n s j k h g = let same : taken m j ≡ taken n k = morning_sole stage st day so_far s 0 m n j k h g in cc

pub never_same : NeverSame
never_same = (
  taken_once,
  λ stage st day so_far m n s sf bm bn wm wn.
      taken_once stage st day so_far m n s (length s) (length s) (written_taken.1 stage st day so_far m s sf bm wm) (written_taken.1 stage st day so_far n s sf bn wn),
)

-- EVERY MORNING IN BOUNDS CAN BE WRITTEN

deal_piece : Deal → List ℕ
deal_piece d = deal_octets d.holder d.other d.from (written d.contract)

deals_pieces : (stage : Stage) (st : Start) (day : ℕ) → StartFits st → (ds : List Deal) → AllByRecursion (DealFits stage st day) ds → Each DealWritten ds (map deal_piece ds)
unfolding deal_piece
deals_pieces stage st day sf [] f = none
deals_pieces stage st day sf (d ∷ ds) f =
    let t = (has_taken st.rates st.currencies d.contract sf.rates sf.currencies f.0.contract).0 in
    more (written d.contract, t.text_of, t.short, refl) (deals_pieces stage st day sf ds f.1)

rates_pieces : (rs : List ℤ) → Each RateWritten rs (map rate_octets rs)
rates_pieces [] = none
rates_pieces (a ∷ rs) = more refl (rates_pieces rs)

choices_pieces : (cs : List Choice) → Each ChoiceWritten cs (map (λ c. choice_octets c.of c.at) cs)
choices_pieces [] = none
choices_pieces (c ∷ cs) = more refl (choices_pieces cs)

pub every_taken : EveryTaken
every_taken stage st day so_far m sf b =
    let f = fits_piecewise stage st day so_far m b in
    let ds = map deal_piece m.deals in
    let rs = map rate_octets m.day.rates in
    let cs = map (λ c. choice_octets c.of c.at) m.day.choices in
    let pieces = octets_of 2 (length m.deals) ∷ (ds ++ (rs ++ (octets_of 2 (length m.day.choices) ∷ cs))) in
    let w : MorningWritten m (in_a_row pieces) = (
      pieces,
      record {
        deal_pieces = ds;
        rate_pieces = rs;
        choice_pieces = cs;
        deals = deals_pieces stage st day sf m.deals f.deals;
        rates = rates_pieces m.day.rates;
        choices = choices_pieces m.day.choices;
        in_order = refl;
      },
      refl,
    ) in
    (in_a_row pieces, w, morning_taken stage st day so_far sf m f (in_a_row pieces) w)

pub pieces_judged : PiecesJudged
pieces_judged stage st day so_far m pieces s u k sf b w room turn =
    let r = pieces_stand pieces s u k room turn in
    let long : length (take k u) ≡ k = ap length r.0 ∙ sym r.1 in
    subst (λ n. MorningRead stage st day so_far (take k u) 0 (taken m n)) long (written_taken.1 stage st day so_far m (take k u) sf b (pieces, w, r.0))
