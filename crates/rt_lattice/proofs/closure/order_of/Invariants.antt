use Rattle.std.proofs.Common.{◌≡◌, take, drop}
use Rattle.rt_lattice.specs.Closures.{Closes, first_unknown, names_in}
use Rattle.rt_lattice.proofs.closure.order_of.Given as goal

abbrev pub invariant-loop-pair : goal.invariant-loop-pair
invariant-loop-pair l = record {
  closes : Closes l.file.names (take l.pair-index l.pair-items) l.order;
  known : first_unknown l.file.names (names_in (drop l.pair-index l.pair-items)) ≡ first_unknown l.file.names (names_in l.pair-items);
}
