use Rattle.std.proofs.Common.{◌≡◌, ◌*◌, length}
use Rattle.rt_lines.proofs.OrderCells.{HasRow-kept, HasRow-more, set-related}
use Rattle.rt_lines.proofs.order.put_row.Goals as goal
use Rattle.rt_lines.proofs.order.put_row.Goals.{then-is_at_or_below, else-is_at_or_below}

pub loop-y-preserved : goal.loop-y-preserved
loop-y-preserved c =
    let full : length c.loop-y.cells ≡ c.args.count * c.args.count = cc (c.loop-y.auto.cells, c.requires.full) in
    elim c.if-is_at_or_below.branch [
      | then-is_at_or_below w ↦
          rw (w.cells-is, w.place.ensures.place)
          (HasRow-more _ _ _ _ _ _ _ c.loop-y.invariant c.requires.second c.loop-y-test.true (c.is_at_or_below.ensures.0 w.if-is_at_or_below.true) (λ p q hp hq. set-related _ _ _ _ p q full c.requires.first c.loop-y-test.true hp hq))
      | else-is_at_or_below w ↦
          rw w.cells-is
          (HasRow-kept _ _ _ _ _ _ c.loop-y.invariant c.requires.second c.loop-y-test.true (λ r. let t = c.is_at_or_below.ensures.1 r in cc))
    ]
