use Rattle.std.proofs.Common.{take}
use Rattle.rt_flow.specs.Inside.Spreading.{MarksAll}
use Rattle.rt_flow.proofs.rows.mark_all.Given as goal

abbrev pub invariant-loop-block : goal.invariant-loop-block
invariant-loop-block l = MarksAll l.def (take l.block-index l.blocks) l.fn.rows.items l.fn.work.items l.rows.items l.work.items
