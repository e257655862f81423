use Rattle.std.proofs.Common.{ℕ, ◌<◌, length}
use Rattle.rt_tree.specs.Trees.{Nodes}
use Rattle.rt_tree.specs.Pairs.{AreClasses, Follows}
use Rattle.rt_tree.proofs.spreading.rename_ring.Given as goal

-- the classes stay sound
abbrev pub invariant-loop : goal.invariant-loop
invariant-loop l = record {
  x : l.x < length l.class;
  classes : (t : Nodes) (root : ℕ) → AreClasses t root l.fn.class → l.to < length t → Follows t root l.from l.to → AreClasses t root l.class;
}
