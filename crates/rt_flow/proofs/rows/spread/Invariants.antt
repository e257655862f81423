use Rattle.std.proofs.Common.{◌+◌, length}
use Rattle.rt_flow.specs.Inside.Spreading.{rows_without}
use Rattle.rt_flow.proofs.Filling.{IsFilling}
use Rattle.rt_flow.proofs.rows.spread.Given as goal

abbrev pub invariant-loop-block : goal.invariant-loop-block
invariant-loop-block l = IsFilling l.targets l.lasts l.starts l.def l.fn.rows.items l.rows.items l.work.items

abbrev pub decreases-loop-block : goal.decreases-loop-block
decreases-loop-block l = rows_without l.def l.rows.items + length l.work.items
