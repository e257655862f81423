use Rattle.std.proofs.Common.{◌<◌, get_or, sym, subst}
use Rattle.rt_outline.proofs.Joining.{few_groups, in_group, together_whole}
use Rattle.rt_outline.proofs.grouping.together.Goals as goal

pub numbers_of-requires : goal.numbers_of-requires
numbers_of-requires c = λ k a m.
    subst (λ n. a < n) c.in_ok-graph.ensures.each (in_group c.in_ok-graph.graph c.in_ok-groups.groups c.in_ok-groups.ensures k a m)

pub returns-clause-classes : goal.returns-clause-classes
returns-clause-classes c =
    together_whole c.args.pairs.now c.args.count c.in_ok-graph.graph c.in_ok-groups.groups c.in_ok-numbers.numbers.items
    c.in_ok-graph.ensures c.in_ok-groups.ensures c.in_ok-numbers.ensures

pub returns-clause-few : goal.returns-clause-few
returns-clause-few c = λ v h.
    subst (λ n. get_or c.in_ok-numbers.numbers.items v 0 < n) (sym c.len.ensures)
    (few_groups c.in_ok-graph.graph c.in_ok-groups.groups c.args.count c.in_ok-numbers.numbers.items c.in_ok-groups.ensures
    c.in_ok-graph.ensures.each c.in_ok-numbers.ensures v h)
