use Rattle.std.proofs.Common.{◌≡◌, ◌<◌, [], length, get_or, Contains, sym, ap, subst, ◌∙◌}
use Rattle.std.proofs.lemmas.List.{get_or_read}
use Rattle.std.proofs.lemmas.List.Elements.{Contains-get_or}
use Rattle.rt_components.specs.Graphs.{successors}
use Rattle.rt_components.proofs.graph.Graph.successors.Goals as goal

pub returns-clause-nodes : goal.returns-clause-nodes
returns-clause-nodes c = λ k d less.
    let xs = c.self.inside.successors.items in
    let nodes = c.items.result.now in
    let within : c.args.node < length xs = subst (λ n. c.args.node < n) (sym (ap length c.self.view_is)) c.requires in
    let same : nodes ≡ successors xs c.args.node = c.items.ensures ∙ get_or_read xs c.args.node c.index.result.now within c.index.ensures [] in
    let here : Contains (successors xs c.args.node) (get_or nodes k d) = subst (λ ys. Contains ys (get_or nodes k d)) same (Contains-get_or nodes k d less) in
    subst (λ n. get_or nodes k d < n) (ap length c.self.view_is) (c.self.invariant.edges c.args.node (get_or nodes k d) here)
