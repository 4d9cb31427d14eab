-- A contract in a tree, and what flows under it on a day.
use Rattle.std.proofs.Common.{◌≡◌, ℕ, suc, ◌+◌, ◌-◌, ◌<◌, ◌≤◌, Bool, true, false, eqb, ltb, List, [], ◌∷◌, map, length, get_or, sym, ap, ◌∙◌, arith, ℤ, neg_ℤ}
use Rattle.std.proofs.lemmas.Bool.{lt-ltb, le-ltb}
use Rattle.deals.specs.Contract.{Contract, nothing, pays, turned, both, choice, either, scaled, on_day, when, by_day, Day, Flow, pick, flows}
use Rattle.deals.specs.Promise.{marks, parts, ContractFits}
use Rattle.deals.specs.Residual.{come_to}
use Rattle.deals.specs.House.{Owes}
use Rattle.deals.specs.Payments.{adds}
use Rattle.deals.proofs.Sizes.{flows_count}
use Rattle.texts.proofs.Standing.{nodes_length}
use Rattle.texts.specs.Nodes.{nodes_of}
use Rattle.texts.specs.declared.nodes.Node.{Node}
use Rattle.texts.specs.declared.nodes.Node.TheVariants.{Nothing}
use Rattle.replay.specs.declared.days.DayAt.{DayAt}
use Rattle.replay.specs.declared.dues.Due.{Due}
use Rattle.replay.specs.declared.flow.Part.{Part}
use Rattle.replay.specs.declared.listing.DealIn.{DealIn}
use Rattle.replay.specs.Choices.{way_bits, way_of}
use Rattle.replay.specs.Flow.{seen, flow_at}
use Rattle.replay.specs.Meaning.{DaysAre, dues_on, due_of, as_due}
use Rattle.mornings.specs.declared.Start.{Start}
use Rattle.replay.specs.Parts.{node_in, Stands}
use Rattle.replay.specs.Adding.{today_flows, OwesIt}
use Rattle.replay.proofs.Flows.{flow_means}

parts_few : (x : Contract) → parts x ≤ marks x
unfolding parts marks
parts_few nothing = omega arith
parts_few (pays k a) = omega arith
parts_few (turned x) = omega (arith, parts_few x)
parts_few (both x y) = omega (arith, parts_few x, parts_few y)
parts_few (choice x y) = omega (arith, parts_few x, parts_few y)
parts_few (either e x y) = omega (arith, parts_few x, parts_few y)
parts_few (scaled e x) = omega (arith, parts_few x)
parts_few (on_day d x) = omega (arith, parts_few x)
parts_few (when e x) = omega (arith, parts_few x)
parts_few (by_day d x) = omega (arith, parts_few x)

-- the nodes of a row stand from its beginning on
stands_each : (node : ℕ → Node) (ns : List Node) (i : ℕ) → ((j : ℕ) → j < length ns → node (i + j) ≡ get_or ns j Nothing) → Stands node i ns
unfolding Stands
stands_each node [] i h = tt
stands_each node (n ∷ ns) i h =
    let here : i ≡ i + 0 = omega arith in
    (ap node here ∙ h 0 (omega arith), stands_each node ns (i + 1) (λ j lt. let next : i + 1 + j ≡ i + suc j = omega arith in ap node next ∙ h (suc j) (omega arith)))

row_stands : (ns : List Node) → Stands (node_in ns) 0 ns
row_stands ns = stands_each (node_in ns) ns 0 (λ j lt. let same : 0 + j ≡ j = omega arith in ap (node_in ns) same)

pub fits_marks : (rs cs : ℕ) (x : Contract) → ContractFits rs cs x → length (nodes_of x) ≤ 256
unfolding ContractFits
fits_marks rs cs x f = omega (arith, nodes_length x, f.1)

abbrev pub whole_part : ℕ → Part
whole_part t = record { at = 0; day = t; way = record { bits = 0; len = 0 } }

pub whole_flows : (rs cs c : ℕ) (kept : List ℕ) (days : List DayAt) (ds : List Day) (x : Contract) (t u : ℕ) → cs ≤ 64 → DaysAre rs kept days ds →
    ContractFits rs cs x → flow_at (seen kept days (nodes_of x) c) u 256 (whole_part t) ≡ dues_on u (flows ds c [] x t)
unfolding ContractFits way_of way_bits
whole_flows rs cs c kept days ds x t u coins are f =
    let long = nodes_length x in
    flow_means ds rs cs c u (seen kept days (nodes_of x) c) are.many are.rates (are.choices c) are.few coins are.small are.early x f.0 0 256 t [] tt
    (row_stands (nodes_of x), omega (arith, f.1), omega (arith, f.1))

pick_few : (b : Bool) (d : Due) (xs : List Due) (n : ℕ) → length xs ≤ n → length (pick b (d ∷ xs) xs) ≤ suc n
pick_few true d xs n h = omega arith
pick_few false d xs n h = omega arith

dues_few : (u : ℕ) (fs : List Flow) → length (dues_on u fs) ≤ length fs
unfolding dues_on
dues_few u [] = omega arith
dues_few u (f ∷ fs) = pick_few (eqb f.on u) (due_of f) (dues_on u fs) (length fs) (dues_few u fs)

pub today_few : (rs cs c : ℕ) (ds : List Day) (d : DealIn) (x : Contract) → ContractFits rs cs x → length (today_flows ds c d x) ≤ 256
unfolding ContractFits
today_few rs cs c ds d x f = omega (arith, dues_few (length ds - 1) (flows ds c [] x d.at.day), flows_count ds c x [] d.at.day, parts_few x, f.1)

module _ (st : Start) (kept : List ℕ) (days : List DayAt) (d : DealIn) (c : ℕ) (o : Owes) (w : OwesIt st kept days d c o) (k : ℕ) where
  abbrev comes : ℤ
  comes = come_to k (map as_due (today_flows w.ds c d w.contract))

  adds_is : pick (ltb d.at.other d.at.holder) comes (neg_ℤ comes) ≡ adds o k
  unfolding adds
  adds_is =
      ap (λ z. pick (ltb z d.at.holder) comes (neg_ℤ comes)) w.other ∙ ap (λ z. pick (ltb o.other z) comes (neg_ℤ comes)) w.holder
      ∙ ap (λ z. pick (ltb o.other o.holder) (come_to k z) (neg_ℤ (come_to k z))) (sym w.now)

  pub adds_up : d.at.other < d.at.holder → comes ≡ adds o k
  adds_up h = sym (ap (λ b. pick b comes (neg_ℤ comes)) (lt-ltb d.at.other d.at.holder h)) ∙ adds_is

  pub adds_down : d.at.holder ≤ d.at.other → neg_ℤ comes ≡ adds o k
  adds_down h = sym (ap (λ b. pick b comes (neg_ℤ comes)) (le-ltb d.at.other d.at.holder h)) ∙ adds_is
