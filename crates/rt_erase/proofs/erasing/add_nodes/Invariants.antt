use Rattle.std.proofs.Common.{◌≤◌, ◌^◌, length}
use Rattle.rt_erase.specs.Erasures.{HasGrown}
use Rattle.rt_erase.specs.Inside.Erasing.{HasLeaves}
use Rattle.rt_erase.proofs.erasing.add_nodes.Given as goal

abbrev pub invariant-loop : goal.invariant-loop
invariant-loop l = record {
  grown : HasGrown l.fn.graph l.graph;
  leaves : HasLeaves (length l.fn.graph) l.counter l.graph;
  numbered : length l.graph ≤ 2 ^ 32;
}
