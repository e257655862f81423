use Rattle.std.proofs.Common.{◌<◌, ◌≤◌, All, length}
use Rattle.rt_tree.specs.Pairs.{both, AreClasses, AreToFollow}
use Rattle.rt_tree.proofs.spreading.spread_edges.Given as goal

-- classes stay sound, and so does what is noted
abbrev pub invariant-loop-k : goal.invariant-loop-k
invariant-loop-k l = record {
  classes : AreClasses (both l.a l.b) (length l.a) l.class;
  next : All (λ x. x < length l.class) l.next;
  todo : AreToFollow (both l.a l.b) (length l.a) l.todo;
  top : l.top ≤ length l.todo;
}
