use Rattle.rt_reduce.proofs.Inners.{own_names}
use Rattle.rt_reduce.proofs.inner.Inner.plain.Goals as goal

pub invariant_of-result : goal.invariant_of-result
invariant_of-result c = (own_names c.args.lines.now c.in_ok-arcs.arcs c.in_ok-arcs.ensures, tt)
