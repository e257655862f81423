use Rattle.std.proofs.Common.{sym, subst}
use Rattle.rt_shape.specs.Shapes.{ArePairs}
use Rattle.rt_shape.proofs.Within.{pairs_within}
use Rattle.rt_shape.proofs.of.Goals as goal

pub joined-requires : goal.joined-requires
joined-requires c =
    pairs_within c.args.lines.now c.in_ok-naming.naming.tree c.deref.result.now c.in_ok-naming.ensures.good
    (subst (ArePairs c.args.lines.now c.in_ok-naming.naming.tree) (sym c.deref.ensures.value) c.in_ok-naming.ensures.pairs)

pub shape_of-requires-clause-pairs_in : goal.shape_of-requires-clause-pairs_in
shape_of-requires-clause-pairs_in c =
    pairs_within c.args.lines.now c.in_ok-naming.naming.tree c.deref-2.result.now c.in_ok-naming.ensures.good
    (subst (ArePairs c.args.lines.now c.in_ok-naming.naming.tree) (sym c.deref-2.ensures.value) c.in_ok-naming.ensures.pairs)
