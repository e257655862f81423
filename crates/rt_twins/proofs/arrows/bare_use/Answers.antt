use Rattle.rt_twins.proofs.Gathering.{bare_below, bare_above}
use Rattle.rt_twins.proofs.arrows.bare_use.Goals as goal

pub returns-in-Co : goal.returns-in-Co
returns-in-Co c = rw (c.in-Co.is, c.in-Sub.is) (bare_below c.bare_beside.result c.in-Sub.x c.in-Sub.y c.bare_beside.ensures)

pub returns-in-Contra : goal.returns-in-Contra
returns-in-Contra c =
    rw (c.in-Contra.is, c.in-Sub.is) (bare_above c.bare_beside-in-Contra.result c.in-Sub.x c.in-Sub.y c.bare_beside-in-Contra.ensures)
