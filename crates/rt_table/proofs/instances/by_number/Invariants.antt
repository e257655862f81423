use Rattle.std.proofs.Common.{◌≡◌, ◌≤◌, ℕ, length, drop, nat_eq}
use Rattle.indexmap.specs.IndexMap.{get}
use Rattle.rt_scheme.specs.Ports.{label_at}
use Rattle.rt_table.proofs.instances.by_number.Given as goal

abbrev pub invariant-loop-rest : goal.invariant-loop-rest
invariant-loop-rest l = record {
  within : l.rest ≤ length l.ports;
  same : (n : ℕ) → get nat_eq l.labels n ≡ label_at (drop l.rest l.ports) n;
}

abbrev pub decreases-loop-rest : goal.decreases-loop-rest
decreases-loop-rest l = l.rest
