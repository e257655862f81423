use Rattle.std.proofs.Common.{◌≡◌, ◌*◌, length}
use Rattle.rt_sat.specs.Inside.Filling.{AreInFamily}
use Rattle.rt_sat.proofs.filling.homes.Given as goal

abbrev pub invariant-loop-variable : goal.invariant-loop-variable
invariant-loop-variable l = record {
  long : length l.homes.items ≡ 2 * l.variable-index;
  inside : AreInFamily l.family l.homes.items;
}
