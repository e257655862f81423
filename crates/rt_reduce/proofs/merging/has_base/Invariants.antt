use Rattle.std.proofs.Common.{◌≡◌}
use Rattle.rt_lines.specs.declared.variable.Dtv.{Dtv}
use Rattle.rt_reduce.proofs.Telling.{IsNone}
use Rattle.rt_reduce.proofs.merging.has_base.Given as goal

abbrev pub invariant-loop-side : goal.invariant-loop-side
invariant-loop-side l = IsNone (λ (x : Dtv). x.base ≡ l.base) l.sides l.side-index
