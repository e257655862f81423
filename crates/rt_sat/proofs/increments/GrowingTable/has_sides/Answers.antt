use Rattle.rt_lines.specs.Sides.{sides}
use Rattle.rt_lines.specs.SidesLeft.{sides_left}
use Rattle.rt_sat.proofs.Adding.{side_more, sides_named}
use Rattle.rt_sat.proofs.increments.GrowingTable.has_sides.Goals as goal

pub loop-side-preserved : goal.loop-side-preserved
loop-side-preserved c = λ x.
    side_more c.args.self.now.frame.named (sides c.args.line.now) (sides_left c.loop-side.side-iterator) (sides_left c.next.new.self) c.in-Some.side.now x c.index.result c.in-Some.ensures.steps c.index.ensures c.if-is_none.ensures
    (c.loop-side.invariant x)

pub returns : goal.returns
returns c = λ e. sides_named c.args.self.now.frame.named c.args.line.now (sides_left c.loop-side.side-iterator) c.in-None.ensures.steps.0 c.loop-side.invariant
