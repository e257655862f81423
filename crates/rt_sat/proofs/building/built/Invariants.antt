use Rattle.std.proofs.Common.{length}
use Rattle.rt_sat.specs.Inside.Checks.{AreWalked}
use Rattle.rt_sat.specs.Hints.{AreSameMembers, IsFamily}
use Rattle.rt_sat.proofs.building.built.Given as goal

abbrev pub invariant-loop-class : goal.invariant-loop-class
invariant-loop-class l = record {
  same : AreSameMembers l.initial.family l.family;
  family : IsFamily (length l.nodes) l.family;
  walked : AreWalked l.family l.edges;
}
