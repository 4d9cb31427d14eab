-- A contract is one of the thin house if all its nodes are. Assumes nothing.
use Rattle.std.proofs.lemmas.List.Folds.{list_all-append}
use Rattle.std.proofs.Common.{◌≡◌, ◌&&◌, refl, ap, ◌∙◌}
use Rattle.deals.specs.Contract.{Contract, nothing, pays, turned, both, choice, either, scaled, on_day, when, by_day}
use Rattle.deals.specs.Promise.{thin}
use Rattle.texts.specs.Nodes.{nodes_of}
use Rattle.texts.specs.Stages.{thin_node, all_thin}

pub thin_nodes : (x : Contract) → all_thin (nodes_of x) ≡ thin x
unfolding thin
thin_nodes nothing = refl
thin_nodes (pays k a) = refl
thin_nodes (turned x) = thin_nodes x
thin_nodes (both x y) = list_all-append thin_node (nodes_of x) (nodes_of y) ∙ ap (λ b. b && all_thin (nodes_of y)) (thin_nodes x) ∙ ap (λ b. thin x && b) (thin_nodes y)
thin_nodes (choice x y) = refl
thin_nodes (either e x y) = refl
thin_nodes (scaled e x) = refl
thin_nodes (on_day d x) = thin_nodes x
thin_nodes (when e x) = refl
thin_nodes (by_day d x) = refl
