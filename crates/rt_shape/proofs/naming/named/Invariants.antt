use Rattle.std.proofs.Common.{take}
use Rattle.rt_shape.specs.Shapes.{ArePairs, IsNaming}
use Rattle.rt_shape.proofs.naming.named.Given as goal

abbrev pub invariant-loop-line : goal.invariant-loop-line
invariant-loop-line l = record {
  naming : IsNaming (take l.line-index l.lines) l.tree;
  pairs : ArePairs (take l.line-index l.lines) l.tree l.pairs.items;
}
