use Rattle.rt_sat.specs.declared.family.Family.{Family}
use Rattle.rt_sat.specs.Hints.{AreInClass}
use Rattle.rt_sat.specs.Inside.Filling.{AreInFamily}
use Rattle.rt_sat.proofs.filling.ways.Given as goal

abbrev pub invariant-loop-place : goal.invariant-loop-place
invariant-loop-place l = record {
  inside : (family : Family) → AreInFamily family l.homes → AreInClass family l.class l.ways.items;
}
