use Rattle.std.proofs.Common.{◌≡◌, ◌/◌, ◌<◌, ◌≤◌, ◌*◌, length}
use Rattle.rt_plan.specs.Inside.Leasts.{IsTreeBut}
use Rattle.rt_plan.proofs.leasts.Leasts.set.Given as goal

abbrev pub invariant-loop-place : goal.invariant-loop-place
invariant-loop-place l = record {
  some : 1 ≤ l.place;
  within : l.place < 2 * length l.self-inside.members.items;
  members : l.self-inside.members.items ≡ l.initial.self-inside.members.items;
  tree : IsTreeBut l.self-inside.members.items l.self-inside.tree.items (l.place / 2);
}

abbrev pub decreases-loop-place : goal.decreases-loop-place
decreases-loop-place l = l.place
