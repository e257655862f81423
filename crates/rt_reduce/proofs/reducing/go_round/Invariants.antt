use Rattle.std.proofs.Common.{All}
use Rattle.rt_lines.specs.Lines.{HasConstantsBelow}
use Rattle.rt_reduction.specs.Emits.{AreOfScheme}
use Rattle.rt_reduce.specs.Inside.Handing.{AreNeeded}
use Rattle.rt_reduce.proofs.Between.{IsBetween}
use Rattle.rt_reduce.proofs.Falling.{named_count}
use Rattle.rt_reduce.proofs.reducing.go_round.Given as goal

abbrev pub invariant-loop-now : goal.invariant-loop-now
invariant-loop-now l = record {
  scheme : AreOfScheme l.now;
  constants : All (HasConstantsBelow l.order.count) l.now;
  between : IsBetween l.order l.fn.lines l.now;
  needed : AreNeeded l.order l.now;
}

abbrev pub decreases-loop-now : goal.decreases-loop-now
decreases-loop-now l = named_count l.fn.lines l.now
