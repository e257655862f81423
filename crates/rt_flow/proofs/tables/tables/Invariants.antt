use Rattle.std.proofs.Common.{◌≡◌, length}
use Rattle.rt_flow.proofs.Tabled.{AreTables}
use Rattle.rt_flow.proofs.tables.tables.Given as goal

abbrev pub invariant-loop-class : goal.invariant-loop-class
invariant-loop-class l = record {
  each : length l.tables.items ≡ l.class;
  tables : AreTables l.blocks.firsts.items l.targets l.entry l.classes l.class l.sets l.tables.items;
}
