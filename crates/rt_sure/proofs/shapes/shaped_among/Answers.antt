use Rattle.std.proofs.Common.{List, Bool, subst}
use Rattle.rt_sure.specs.Inside.Shapes.{AreShaped}
use Rattle.rt_sure.proofs.Shaping.{shaped_fewer}
use Rattle.rt_sure.proofs.shapes.shaped_among.Goals as goal

pub returns : goal.returns
returns c =
    let lines = c.args.lines.now in
    let shaped = c.in_ok-shaped.shaped.items in
    shaped_fewer lines shaped c.in_ok-given.given.items c.args.stays.now c.in_ok-given.ensures.fewer
    (subst (λ (fs : List Bool). AreShaped lines fs shaped) c.deref.ensures.value c.in_ok-shaped.ensures)
