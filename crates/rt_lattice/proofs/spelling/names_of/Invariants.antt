use Rattle.std.proofs.Common.{◌≡◌, take}
use Rattle.rt_lines.specs.Names.{AreNames}
use Rattle.rt_lattice.proofs.spelling.names_of.Given as goal

abbrev pub invariant-loop-string : goal.invariant-loop-string
invariant-loop-string l = record {
  items : l.names ≡ take l.string-index l.strings;
  good : AreNames l.names;
}
