use Rattle.rt_lines.proofs.OrderCells.{HasRows-kept, HasRows-more}
use Rattle.rt_lines.proofs.order.put_below.Goals as goal
use Rattle.rt_lines.proofs.order.put_below.Goals.{then-is_at_or_below, else-is_at_or_below}

pub loop-x-preserved : goal.loop-x-preserved
loop-x-preserved c =
    elim c.if-is_at_or_below.branch [
      | then-is_at_or_below w ↦
          rw w.cells-is
          (HasRows-more _ _ _ _ _ _ _ c.loop-x.invariant c.requires.first c.requires.second c.loop-x-test.true (c.is_at_or_below.ensures.0 w.if-is_at_or_below.true) w.put_row.ensures)
      | else-is_at_or_below w ↦
          rw w.cells-is
          (HasRows-kept _ _ _ _ _ _ c.loop-x.invariant c.requires.first c.loop-x-test.true (λ r. let t = c.is_at_or_below.ensures.1 r in cc))
    ]
