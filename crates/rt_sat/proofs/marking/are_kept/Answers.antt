use Rattle.std.proofs.Common.{arith}
use Rattle.rt_sat.proofs.Marks.{kept_all}
use Rattle.rt_sat.proofs.marking.are_kept.Goals as goal

pub returns : goal.returns
returns c = λ e. kept_all c.args.shape.now c.args.marks.now (λ i h. c.loop-i.invariant i (omega (arith, h, c.loop-i-test.false, c.edge_count-i-end.ensures)))
