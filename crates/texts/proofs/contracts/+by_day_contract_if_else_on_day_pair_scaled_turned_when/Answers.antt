use Rattle.texts.proofs.Mapped.{handed_on}
use Rattle.texts.proofs.Parts.{a_word, ◌also◌, by_words, free, by_end, then_took, then_stops, stops_then, calm_took, calm_stops, word_long, word_past}
use Rattle.texts.proofs.FigureParts.{a_figure}
use Rattle.texts.proofs.ContractParts.{a_text, a_day, pair_long, pair_past, turned_as, turned_stops, both_as, both_stops, choice_as, choice_stops, either_as, either_stops, scaled_as, scaled_stops, on_as, on_stops, when_as, when_stops, by_as, by_stops, pair_as, pair_stops}
use Rattle.std.proofs.Common.{[], ◌∷◌, ◌++◌, codes, refl, arith}
use Rattle.std.proofs.lemmas.Result.{MatchResult-weaker}
use Rattle.deals.specs.Contract.{turned, both, choice, either, scaled, on_day, when, by_day}
use Rattle.texts.specs.Nodes.{figure_nodes, nodes_of}
use Rattle.texts.specs.declared.nodes.Node.TheVariants.{Turned, If, Of, On, When, By}
use Rattle.texts.proofs.Rows.{grown_then}
use Rattle.texts.proofs.contracts.+by_day_contract_if_else_on_day_pair_scaled_turned_when.Goals as goal
use Rattle.texts.specs.Text.{exactly}
use Rattle.texts.specs.Bounds.{plain, numeral, ◌next◌, FigureNumerals, ContractNumerals}
use Rattle.texts.proofs.Notes.{noted_then, noted_map, noted_took, noted_day, next_map, next_end, next_right}

pub turned-returns-in_err-to : goal.turned-returns-in_err-to
turned-returns-in_err-to t c =
    handed_on _ _ _ _ c.from_residual.ensures.1 (turned_stops c.args.text.now c.args.at c.requires.opens (stops_then free (a_text also a_word) c.in_err-to.ensures))

pub turned-returns-in_err-to-2 : goal.turned-returns-in_err-to-2
turned-returns-in_err-to-2 t c =
    handed_on _ _ _ _ c.from_residual-in_err-to-2.ensures.1 (turned_stops c.args.text.now c.args.at c.requires.opens (then_stops free c.in_ok-to.ensures (stops_then (by_end refl) a_word c.in_err-to-2.ensures)))

pub turned-returns : goal.turned-returns
turned-returns t c =
    let x = c.in_ok-to-2.ensures in
    MatchResult-weaker c.word-2.result c.word-2.ensures
    (λ to h. (
      turned x.0,
      turned_as c.args.text.now c.args.at c.requires.opens (then_took free c.in_ok-to.ensures (then_took (by_end refl) c.in_ok-to-2.ensures.1 (calm_took (h)))),
      grown_then (Turned ∷ []) (nodes_of x.0) c.push.ensures x.2,
      noted_then (noted_took c.in_ok-to.ensures) (noted_then x.3 (noted_took h)),
    ))
    (λ to h. turned_stops c.args.text.now c.args.at c.requires.opens (then_stops free c.in_ok-to.ensures (then_stops (by_end refl) c.in_ok-to-2.ensures.1 (calm_stops h))))

pub pair-returns-in_err-to : goal.pair-returns-in_err-to
pair-returns-in_err-to t c = handed_on _ _ _ _ c.from_residual.ensures.1 (pair_stops (stops_then free (a_text also a_word also a_text also a_word) c.in_err-to.ensures))

pub pair-returns-in_err-to-2 : goal.pair-returns-in_err-to-2
pair-returns-in_err-to-2 t c = handed_on _ _ _ _ c.from_residual-in_err-to-2.ensures.1 (pair_stops (then_stops free c.in_ok-to.ensures (stops_then (by_words _ refl) (a_word also a_text also a_word) c.in_err-to-2.ensures)))

pub pair-returns-in_err-to-3 : goal.pair-returns-in_err-to-3
pair-returns-in_err-to-3 t c = handed_on _ _ _ _ c.from_residual-in_err-to-3.ensures.1 (pair_stops (then_stops free c.in_ok-to.ensures (then_stops (by_words _ refl) c.in_ok-to-2.ensures.1 (stops_then free (a_text also a_word) c.in_err-to-3.ensures))))

pub pair-returns-in_err-to-4 : goal.pair-returns-in_err-to-4
pair-returns-in_err-to-4 t c = handed_on _ _ _ _ c.from_residual-in_err-to-4.ensures.1 (pair_stops (then_stops free c.in_ok-to.ensures (then_stops (by_words _ refl) c.in_ok-to-2.ensures.1 (then_stops free c.in_ok-to-3.ensures (stops_then (by_end refl) a_word c.in_err-to-4.ensures)))))

pub pair-returns : goal.pair-returns
pair-returns t c =
    let x = c.in_ok-to-2.ensures in
    let y = c.in_ok-to-4.ensures in
    MatchResult-weaker c.word-3.result c.word-3.ensures
    (λ to h. (
      (x.0, y.0),
      pair_as (then_took free c.in_ok-to.ensures (then_took (by_words _ refl) x.1 (then_took free c.in_ok-to-3.ensures (then_took (by_end refl) y.1 (calm_took h))))),
      grown_then (c.args.node ∷ []) (nodes_of x.0 ++ nodes_of y.0) c.push.ensures (grown_then (nodes_of x.0) (nodes_of y.0) x.2 y.2),
      noted_then (noted_took c.in_ok-to.ensures) (noted_then x.3 (noted_then (noted_took c.in_ok-to-3.ensures) (noted_then y.3 (noted_took h)))),
    ))
    (λ to h. pair_stops (then_stops free c.in_ok-to.ensures (then_stops (by_words _ refl) x.1 (then_stops free c.in_ok-to-3.ensures (then_stops (by_end refl) y.1 (calm_stops h))))))

pub contract-returns-in-Both : goal.contract-returns-in-Both
contract-returns-in-Both t c =
    let opens = c.in-Both.ensures in
    MatchResult-weaker c.pair.result c.pair.ensures
    (λ to h. (both h.0.0 h.0.1, both_as c.args.text.now c.args.at opens (pair_long h.1) h.1, h.2, h.3))
    (λ to h. both_stops c.args.text.now c.args.at opens (pair_past opens.0 h) h)

pub contract-returns-in-Choice : goal.contract-returns-in-Choice
contract-returns-in-Choice t c =
    let opens = c.in-Choice.ensures in
    MatchResult-weaker c.pair-in-Choice.result c.pair-in-Choice.ensures
    (λ to h. (choice h.0.0 h.0.1, choice_as c.args.text.now c.args.at opens h.1, h.2, h.3))
    (λ to h. choice_stops c.args.text.now c.args.at opens h)

pub if_else-returns-in_err-to : goal.if_else-returns-in_err-to
if_else-returns-in_err-to t c =
    handed_on _ _ _ _ c.from_residual.ensures.1 (either_stops c.args.text.now c.args.at c.requires.opens (stops_then free (a_figure also a_word also a_text also a_word also a_text) c.in_err-to.ensures))

pub if_else-returns-in_err-to-2 : goal.if_else-returns-in_err-to-2
if_else-returns-in_err-to-2 t c =
    handed_on _ _ _ _ c.from_residual-in_err-to-2.ensures.1 (either_stops c.args.text.now c.args.at c.requires.opens (then_stops free c.in_ok-to.ensures (stops_then (by_words _ refl) (a_word also a_text also a_word also a_text) c.in_err-to-2.ensures)))

pub if_else-returns-in_err-to-3 : goal.if_else-returns-in_err-to-3
if_else-returns-in_err-to-3 t c =
    handed_on _ _ _ _ c.from_residual-in_err-to-3.ensures.1 (either_stops c.args.text.now c.args.at c.requires.opens (then_stops free c.in_ok-to.ensures (then_stops (by_words _ refl) c.in_ok-to-2.ensures.1 (stops_then free (a_text also a_word also a_text) c.in_err-to-3.ensures))))

pub if_else-returns-in_err-to-4 : goal.if_else-returns-in_err-to-4
if_else-returns-in_err-to-4 t c =
    handed_on _ _ _ _ c.from_residual-in_err-to-4.ensures.1 (either_stops c.args.text.now c.args.at c.requires.opens (then_stops free c.in_ok-to.ensures (then_stops (by_words _ refl) c.in_ok-to-2.ensures.1 (then_stops free c.in_ok-to-3.ensures (stops_then (by_words _ refl) (a_word also a_text) c.in_err-to-4.ensures)))))

pub if_else-returns-in_err-to-5 : goal.if_else-returns-in_err-to-5
if_else-returns-in_err-to-5 t c =
    handed_on _ _ _ _ c.from_residual-in_err-to-5.ensures.1 (either_stops c.args.text.now c.args.at c.requires.opens (then_stops free c.in_ok-to.ensures (then_stops (by_words _ refl) c.in_ok-to-2.ensures.1 (then_stops free c.in_ok-to-3.ensures (then_stops (by_words _ refl) c.in_ok-to-4.ensures.1 (stops_then free a_text c.in_err-to-5.ensures))))))

pub if_else-returns : goal.if_else-returns
if_else-returns t c =
    let e = c.in_ok-to-2.ensures in
    let x = c.in_ok-to-4.ensures in
    MatchResult-weaker c.contract-2.result c.contract-2.ensures
    (λ to h. (
      either e.0 x.0 h.0,
      either_as c.args.text.now c.args.at c.requires.opens (then_took free c.in_ok-to.ensures (then_took (by_words _ refl) c.in_ok-to-2.ensures.1 (then_took free c.in_ok-to-3.ensures (then_took (by_words _ refl) c.in_ok-to-4.ensures.1 (then_took free c.in_ok-to-5.ensures h.1))))),
      grown_then (If ∷ []) (figure_nodes e.0 ++ (nodes_of x.0 ++ nodes_of h.0)) c.push.ensures (grown_then (figure_nodes e.0) (nodes_of x.0 ++ nodes_of h.0) e.2 (grown_then (nodes_of x.0) (nodes_of h.0) x.2 h.2)),
      noted_map (λ rs cs w ns. next_map (λ _ _ p. p) (next_end (FigureNumerals rs e.0) (ContractNumerals rs cs x.0 next plain (exactly " else ") next ContractNumerals rs cs h.0) 32 (codes "then ")) w ns)
          (noted_then (noted_took c.in_ok-to.ensures) (noted_then e.3 (noted_then (noted_took c.in_ok-to-3.ensures) (noted_then x.3 (noted_then (noted_took c.in_ok-to-5.ensures) h.3))))),
    ))
    (λ to h. either_stops c.args.text.now c.args.at c.requires.opens (then_stops free c.in_ok-to.ensures (then_stops (by_words _ refl) c.in_ok-to-2.ensures.1 (then_stops free c.in_ok-to-3.ensures (then_stops (by_words _ refl) c.in_ok-to-4.ensures.1 (then_stops free c.in_ok-to-5.ensures (h)))))))

pub scaled-returns-in_err-to : goal.scaled-returns-in_err-to
scaled-returns-in_err-to t c =
    handed_on _ _ _ _ c.from_residual.ensures.1 (scaled_stops c.args.text.now c.args.at c.requires.opens (stops_then (by_words _ refl) (a_word also a_text) c.in_err-to.ensures))

pub scaled-returns-in_err-to-2 : goal.scaled-returns-in_err-to-2
scaled-returns-in_err-to-2 t c =
    handed_on _ _ _ _ c.from_residual-in_err-to-2.ensures.1 (scaled_stops c.args.text.now c.args.at c.requires.opens (then_stops (by_words _ refl) c.in_ok-to.ensures.1 (stops_then free a_text c.in_err-to-2.ensures)))

pub scaled-returns : goal.scaled-returns
scaled-returns t c =
    let e = c.in_ok-to.ensures in
    MatchResult-weaker c.contract.result c.contract.ensures
    (λ to h. (
      scaled e.0 h.0,
      scaled_as c.args.text.now c.args.at c.requires.opens (then_took (by_words _ refl) c.in_ok-to.ensures.1 (then_took free c.in_ok-to-2.ensures h.1)),
      grown_then (Of ∷ []) (figure_nodes e.0 ++ nodes_of h.0) c.push.ensures (grown_then (figure_nodes e.0) (nodes_of h.0) e.2 h.2),
      noted_map (λ rs cs w ns. next_end (FigureNumerals rs e.0) (ContractNumerals rs cs h.0) 32 (codes "of ") w ns)
          (noted_then e.3 (noted_then (noted_took c.in_ok-to-2.ensures) h.3)),
    ))
    (λ to h. scaled_stops c.args.text.now c.args.at c.requires.opens (then_stops (by_words _ refl) c.in_ok-to.ensures.1 (then_stops free c.in_ok-to-2.ensures (h))))

pub on_day-returns-in_err-to : goal.on_day-returns-in_err-to
on_day-returns-in_err-to t c =
    handed_on _ _ _ _ c.from_residual.ensures.1 (on_stops c.args.text.now c.args.at c.requires.opens (stops_then free (a_day also a_text) c.in_err-to.ensures))

pub on_day-returns-in_err-d : goal.on_day-returns-in_err-d
on_day-returns-in_err-d t c =
    handed_on _ _ _ _ c.from_residual-in_err-d.ensures.1 (on_stops c.args.text.now c.args.at c.requires.opens (then_stops free c.in_ok-to.ensures (stops_then free a_text c.in_err-d.ensures)))

pub on_day-returns : goal.on_day-returns
on_day-returns t c =
    let d = c.in_ok-d.ensures in
    MatchResult-weaker c.contract.result c.contract.ensures
    (λ to h. (
      on_day d.0 h.0,
      on_as c.args.text.now c.args.at c.requires.opens (then_took free c.in_ok-to.ensures (then_took free c.in_ok-d.ensures.2 h.1)),
      rw (← d.1) (grown_then (On c.in_ok-d.d ∷ []) (nodes_of h.0) c.push.ensures h.2),
      noted_map (λ rs cs w ns. next_map (λ _ _ p. p) (next_right {P = numeral 65536 d.0} {Q = plain (exactly ": ")} {R = ContractNumerals rs cs h.0}) w ns)
          (noted_then (noted_took c.in_ok-to.ensures) (noted_then (noted_day (λ _ _. 65536) (λ rs cs ks k. c.note.ensures rs cs d.0 ks k d.1) d.2) h.3)),
    ))
    (λ to h. on_stops c.args.text.now c.args.at c.requires.opens (then_stops free c.in_ok-to.ensures (then_stops free c.in_ok-d.ensures.2 (h))))

pub by_day-returns-in_err-to : goal.by_day-returns-in_err-to
by_day-returns-in_err-to t c =
    handed_on _ _ _ _ c.from_residual.ensures.1 (by_stops c.args.text.now c.args.at c.requires.opens (word_past c.requires.opens.0 c.in_err-to.ensures) (stops_then free (a_day also a_text) c.in_err-to.ensures))

pub by_day-returns-in_err-d : goal.by_day-returns-in_err-d
by_day-returns-in_err-d t c =
    handed_on _ _ _ _ c.from_residual-in_err-d.ensures.1 (by_stops c.args.text.now c.args.at c.requires.opens (let long = word_long c.in_ok-to.ensures in let more = c.in_err-d.ensures.forward in omega arith) (then_stops free c.in_ok-to.ensures (stops_then free a_text c.in_err-d.ensures)))

pub by_day-returns : goal.by_day-returns
by_day-returns t c =
    let d = c.in_ok-d.ensures in
    MatchResult-weaker c.contract.result c.contract.ensures
    (λ to h. (
      by_day d.0 h.0,
      by_as c.args.text.now c.args.at c.requires.opens (let long = word_long c.in_ok-to.ensures in let more = c.in_ok-d.ensures.2.forward in let most = h.1.forward in omega arith) (then_took free c.in_ok-to.ensures (then_took free c.in_ok-d.ensures.2 h.1)),
      rw (← d.1) (grown_then (By c.in_ok-d.d ∷ []) (nodes_of h.0) c.push.ensures h.2),
      noted_map (λ rs cs w ns. next_map (λ _ _ p. p) (next_right {P = numeral 65536 d.0} {Q = plain (exactly ": ")} {R = ContractNumerals rs cs h.0}) w ns)
          (noted_then (noted_took c.in_ok-to.ensures) (noted_then (noted_day (λ _ _. 65536) (λ rs cs ks k. c.note.ensures rs cs d.0 ks k d.1) d.2) h.3)),
    ))
    (λ to h. by_stops c.args.text.now c.args.at c.requires.opens (let long = word_long c.in_ok-to.ensures in let more = c.in_ok-d.ensures.2.forward in let most = h.forward in omega arith) (then_stops free c.in_ok-to.ensures (then_stops free c.in_ok-d.ensures.2 (h))))

pub when-returns-in_err-to : goal.when-returns-in_err-to
when-returns-in_err-to t c =
    handed_on _ _ _ _ c.from_residual.ensures.1 (when_stops c.args.text.now c.args.at c.requires.opens (stops_then free (a_figure also a_word also a_text) c.in_err-to.ensures))

pub when-returns-in_err-to-2 : goal.when-returns-in_err-to-2
when-returns-in_err-to-2 t c =
    handed_on _ _ _ _ c.from_residual-in_err-to-2.ensures.1 (when_stops c.args.text.now c.args.at c.requires.opens (then_stops free c.in_ok-to.ensures (stops_then (by_words _ refl) (a_word also a_text) c.in_err-to-2.ensures)))

pub when-returns-in_err-to-3 : goal.when-returns-in_err-to-3
when-returns-in_err-to-3 t c =
    handed_on _ _ _ _ c.from_residual-in_err-to-3.ensures.1 (when_stops c.args.text.now c.args.at c.requires.opens (then_stops free c.in_ok-to.ensures (then_stops (by_words _ refl) c.in_ok-to-2.ensures.1 (stops_then free a_text c.in_err-to-3.ensures))))

pub when-returns : goal.when-returns
when-returns t c =
    let e = c.in_ok-to-2.ensures in
    MatchResult-weaker c.contract.result c.contract.ensures
    (λ to h. (
      when e.0 h.0,
      when_as c.args.text.now c.args.at c.requires.opens (then_took free c.in_ok-to.ensures (then_took (by_words _ refl) c.in_ok-to-2.ensures.1 (then_took free c.in_ok-to-3.ensures h.1))),
      grown_then (When ∷ []) (figure_nodes e.0 ++ nodes_of h.0) c.push.ensures (grown_then (figure_nodes e.0) (nodes_of h.0) e.2 h.2),
      noted_map (λ rs cs w ns. next_map (λ _ _ p. p) (next_end (FigureNumerals rs e.0) (ContractNumerals rs cs h.0) 58 (codes " ")) w ns)
          (noted_then (noted_took c.in_ok-to.ensures) (noted_then e.3 (noted_then (noted_took c.in_ok-to-3.ensures) h.3))),
    ))
    (λ to h. when_stops c.args.text.now c.args.at c.requires.opens (then_stops free c.in_ok-to.ensures (then_stops (by_words _ refl) c.in_ok-to-2.ensures.1 (then_stops free c.in_ok-to-3.ensures (h)))))
