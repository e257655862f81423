use Rattle.rt_refine.proofs.Owning.{owns_left, owns_up, owns_right, owns_low}
use Rattle.rt_refine.proofs.uses.owner.Goals as goal

pub returns-in-Sub : goal.returns-in-Sub
returns-in-Sub c = rw (c.in-Left.is, c.in-Sub.is) (owns_left c.exist_of.result c.in-Sub.x c.in-Sub.field-1 c.exist_of.ensures)

pub returns-in-Up : goal.returns-in-Up
returns-in-Up c = rw (c.in-Left.is, c.in-Up.is) (owns_up c.exist_of-in-Up.result c.in-Up.x c.in-Up.field-1 c.exist_of-in-Up.ensures)

pub returns-in-Sub-line : goal.returns-in-Sub-line
returns-in-Sub-line c =
    rw (c.in-Right.is, c.in-Sub-line.is) (owns_right c.exist_of-in-Sub-line.result c.in-Sub-line.field-0 c.in-Sub-line.y
    c.exist_of-in-Sub-line.ensures)

pub returns-in-Low : goal.returns-in-Low
returns-in-Low c = rw (c.in-Right.is, c.in-Low.is) (owns_low c.exist_of-in-Low.result c.in-Low.field-0 c.in-Low.y c.exist_of-in-Low.ensures)
