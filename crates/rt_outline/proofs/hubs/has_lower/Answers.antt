use Rattle.std.proofs.Common.{List, [], ap, get_or, ◌∙◌}
use Rattle.rt_outline.specs.declared.arc.Arc.{Arc}
use Rattle.rt_outline.proofs.Lowest.{lower_at}
use Rattle.rt_outline.proofs.hubs.has_lower.Goals as goal

pub returns-then-is_lower : goal.returns-then-is_lower
returns-then-is_lower c = λ e.
    lower_at c.args.frame.now.origins.items c.args.frame.now.steps c.args.frame.now.arcs.items c.args.frame.now.back.items c.args.flips.now c.args.node
    c.loop-arc.arc-index c.leaving-arc-items.result.now _ c.requires.frame
    (c.leaving-arc-items.ensures ∙ ap (λ (arcs : List (List Arc)). get_or arcs c.args.node []) c.deref.ensures.value)
    c.loop-arc-test.true (c.is_lower.ensures c.if-is_lower.true)
