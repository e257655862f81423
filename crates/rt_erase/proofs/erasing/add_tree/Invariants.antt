use Rattle.std.proofs.Common.{◌+◌, ◌≤◌, [], length}
use Rattle.rt_erase.specs.Erasures.{HasGrown}
use Rattle.rt_erase.specs.Inside.Erasing.{IsErasing}
use Rattle.rt_erase.proofs.erasing.add_tree.Given as goal

abbrev pub invariant-loop-node : goal.invariant-loop-node
invariant-loop-node l = record {
  grown : HasGrown l.fn.graph l.graph;
  within : l.start + length l.tree ≤ length l.graph;
  erasing : IsErasing l.extremes l.start l.tree l.node [] l.graph;
}
