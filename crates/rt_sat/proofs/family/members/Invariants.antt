use Rattle.std.proofs.Common.{◌≡◌, length}
use Rattle.rt_sat.specs.Hints.{AreMembers}
use Rattle.rt_sat.proofs.family.members.Given as goal

abbrev pub invariant-loop-number : goal.invariant-loop-number
invariant-loop-number l = record {
  each : length l.members.items ≡ length l.initial.members.items;
  are : AreMembers (length l.nodes) l.members.items;
}
