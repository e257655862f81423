use Rattle.std.proofs.Common.{Contains}
use Rattle.rt_sat.specs.declared.gathering.End.{End}
use Rattle.rt_sat.proofs.ends.those.Given as goal

abbrev pub invariant-loop-end : goal.invariant-loop-end
invariant-loop-end l = record {
  are : (end : End) → Contains l.those.items end → Contains l.ends end;
}
