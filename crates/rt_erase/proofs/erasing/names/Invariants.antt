use Rattle.std.proofs.Common.{◌≡◌, length}
use Rattle.rt_erase.specs.Erasures.{HasNames}
use Rattle.rt_erase.proofs.erasing.names.Given as goal

abbrev pub invariant-loop-name : goal.invariant-loop-name
invariant-loop-name l = record {
  each : length l.graph ≡ l.name;
  names : HasNames l.name l.graph;
}
