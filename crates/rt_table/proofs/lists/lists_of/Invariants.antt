use Rattle.std.proofs.Common.{take}
use Rattle.std.specs.Prelude.{All}
use Rattle.rt_lattice.specs.Lattices.{size_of}
use Rattle.rt_rows.specs.Terms.{IsGroupRow}
use Rattle.rt_table.specs.Lists.{AreGiven, AreRowsOf}
use Rattle.rt_table.specs.Inside.Naming.{AreRowsGiven}
use Rattle.rt_table.specs.Inside.Told.{known_in, program_in}
use Rattle.rt_table.proofs.Collected.{AreLists}
use Rattle.rt_table.proofs.lists.lists_of.Given as goal

abbrev pub invariant-loop-number : goal.invariant-loop-number
invariant-loop-number l = record {
  found : AreLists (AreRowsOf (program_in l.facts) (known_in l.facts) l.lattice.roles l.schemes l.outside.members.now.keys) (take l.number-index l.group) l.lists.items;
  interfaces : All (All IsGroupRow) l.lists.items;
  given : AreGiven l.facts.object.now (size_of l.lattice) l.schemes → All (AreRowsGiven l.facts.object.now (size_of l.lattice)) l.lists.items;
}
