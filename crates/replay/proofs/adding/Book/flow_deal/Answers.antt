use Rattle.std.proofs.Common.{◌≡◌, ◌-◌, [], length, refl, ◌∙◌, subst, arith}
use Rattle.texts.specs.Nodes.{Holds, nodes_of}
use Rattle.replay.specs.Dues.{Held}
use Rattle.replay.specs.Flow.{seen, flow_at}
use Rattle.replay.proofs.InTurn.{same_some}
use Rattle.replay.proofs.Whole.{fits_marks, whole_flows, whole_part}
use Rattle.replay.proofs.adding.Book.flow_deal.Goals as goal

pub returns : goal.returns
returns c ds x coins are stands =
    let st = c.args.self.start in
    let kept = c.args.self.days.kept.now in
    let days = c.args.self.days.days.now in
    let day = c.args.deal.at.day in
    let read = c.read_contract.ensures x stands in
    let held = subst (λ t. Holds t (nodes_of x)) (same_some c.read_contract.result read.0 c.in_ok-tree.tree read.1 c.in_ok-tree.was) read.2 in
    let row : c.row.result.now ≡ nodes_of x = c.row.ensures.all (nodes_of x) held (fits_marks st.rates st.currencies x stands.text.fits) in
    let last : c.in_ok-last.last ≡ length ds - 1 = omega (arith, are.many, c.in_ok-last.ensures) in
    let none = c.default.ensures.0 in
    let start = c.default.ensures.1 in
    let same : flow_at (seen kept days c.row.result.now c.args.c) c.in_ok-last.last 256 (record { at = 0; day = day; way = c.default.result })
    ≡ flow_at (seen kept days (nodes_of x) c.args.c) (length ds - 1) 256 (whole_part day) = (λ i. flow_at (seen kept days (row i) c.args.c) (last i) 256 (record { at = 0; day = day; way = record { bits = none i; len = start i } })) in (
      c.flow.new.out,
      refl,
      subst (Held c.flow.new.out) (same ∙ whole_flows st.rates st.currencies c.args.c kept days ds x day (length ds - 1) coins are stands.text.fits)
          (c.flow.ensures [] c.new-dues.ensures),
    )
