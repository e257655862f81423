use Rattle.std.proofs.Common.{◌≡◌}
use Rattle.rt_liveness.proofs.Ending.{first_ends}
use Rattle.rt_liveness.proofs.endings.ends.Given as goal

abbrev pub invariant-loop-number : goal.invariant-loop-number
invariant-loop-number l = record {
  items : l.symbol-items ≡ l.object.symbols;
  each : l.ends ≡ first_ends l.object l.sigs l.number;
}
