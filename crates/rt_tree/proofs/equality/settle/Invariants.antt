use Rattle.std.proofs.Common.{length}
use Rattle.rt_tree.specs.Pairs.{both, AreClasses, IsFoundOfAll}
use Rattle.rt_tree.proofs.Alike.{total}
use Rattle.rt_tree.proofs.equality.settle.Given as goal

abbrev pub invariant-loop-found : goal.invariant-loop-found
invariant-loop-found l = record {
  classes : AreClasses (both l.a l.b) (length l.a) l.class;
  found : IsFoundOfAll l.class (both l.a l.b) (length l.a) l.found;
}

-- a class is renamed into a lesser one
abbrev pub decreases-loop-found : goal.decreases-loop-found
decreases-loop-found l = total l.class
