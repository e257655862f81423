use Rattle.std.proofs.Common.{◌<◌, ◌≤◌, All, length}
use Rattle.rt_tree.specs.Pairs.{both, AreClasses, AreToFollow}
use Rattle.rt_tree.proofs.spreading.spread.Given as goal

-- classes stay sound, and so does what is noted
abbrev pub invariant-loop : goal.invariant-loop
invariant-loop l = record {
  classes : AreClasses (both l.a l.b) (length l.a) l.class;
  next : All (λ x. x < length l.class) l.next;
  todo : AreToFollow (both l.a l.b) (length l.a) l.todo;
  top : l.top ≤ length l.todo;
}
