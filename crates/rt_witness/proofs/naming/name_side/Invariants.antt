use Rattle.std.proofs.Common.{◌<◌, length, get_or}
use Rattle.rt_lines.specs.declared.variable.Dtv.{Dtv}
use Rattle.rt_named.specs.Origins.{no_variable}
use Rattle.rt_shape.specs.Shapes.{IsFront}
use Rattle.rt_witness.specs.Witnesses.{HasNaming}
use Rattle.rt_witness.proofs.naming.name_side.Given as goal

abbrev pub invariant-loop-earlier : goal.invariant-loop-earlier
invariant-loop-earlier l = record {
  within : l.number < length l.named;
  front : IsFront (get_or l.named l.number no_variable) l.x;
  more : HasNaming l.named (λ (y : Dtv). IsFront y l.x) l.fn.rows.items l.i l.rows.items;
}

abbrev pub decreases-loop-earlier : goal.decreases-loop-earlier
decreases-loop-earlier l = l.number
