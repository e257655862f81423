use Rattle.std.proofs.Common.{◌≡◌, ◌<◌, Some, length, ap, sym, subst, ◌∙◌}
use Rattle.std.specs.List.{slice_get}
use Rattle.std.specs.Option.{option_and_then}
use Rattle.std.proofs.lemmas.Option.{slice_get-get_or}
use Rattle.rt_tree.specs.Trees.{Nodes, edge_of, step_of}
use Rattle.rt_tree.proofs.Words.{step_in}
use Rattle.rt_tree.proofs.tree.Tree.step.Goals as goal

pub returns-clause-within : goal.returns-clause-within
returns-clause-within c end e =
    let tree = c.self.inside.nodes.items in
    let l = c.args.label.now in
    let less : c.args.node < length tree = subst (λ (t : Nodes). c.args.node < length t) (sym c.self.view_is) c.requires in
    let at : slice_get tree c.args.node ≡ Some c.index.result.now = slice_get-get_or tree c.args.node c.index.result.now less ∙ ap Some (sym c.index.ensures) in
    let step : step_of tree c.args.node l ≡ Some end = ap (option_and_then (edge_of l)) at ∙ (sym c.end.ensures ∙ e) in
    subst (λ (t : Nodes). end < length t) c.self.view_is (step_in tree c.self.invariant.whole.nodes c.args.node end l step)
