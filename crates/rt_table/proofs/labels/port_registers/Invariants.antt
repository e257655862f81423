use Rattle.std.proofs.Common.{◌≡◌}
use Rattle.rt_table.proofs.Labelling.{first_registers}
use Rattle.rt_table.proofs.labels.port_registers.Given as goal

abbrev pub invariant-loop-number : goal.invariant-loop-number
invariant-loop-number l = l.labels.items ≡ first_registers l.ports l.covered l.number
