use Rattle.std.proofs.Common.{◌<◌, None, sym, ap, ◌∙◌, arith}
use Rattle.std.proofs.lemmas.List.{get_or_read}
use Rattle.rt_plan.specs.Inside.Leasts.{least_of}
use Rattle.rt_plan.proofs.Trees.{first_node, positive}
use Rattle.rt_plan.proofs.leasts.Leasts.least.Goals as goal

pub returns-else-is_empty : goal.returns-else-is_empty
returns-else-is_empty c =
    let members = c.self.inside.members.items in
    let tree = c.self.inside.tree.items in
    let room = c.self.invariant.room in
    let some : 0 < c.self.inside.tree.len = positive _ (sym c.is_empty.ensures ∙ c.if-is_empty.false) in
    let len = c.self.inside.tree.ok.0 in
    get_or_read tree 1 c.index.result.now (omega arith) c.index.ensures None ∙ (first_node members tree c.self.invariant (omega arith) ∙ ap least_of c.self.view_is)
