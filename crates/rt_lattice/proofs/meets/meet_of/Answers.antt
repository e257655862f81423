use Rattle.std.proofs.Common.{arith}
use Rattle.rt_lattice.proofs.Filling.{filled_at}
use Rattle.rt_lattice.proofs.Meeting.{high_begins, high_kept, high_moved, high_ends}
use Rattle.rt_lattice.proofs.meets.meet_of.Goals as goal
use Rattle.rt_lattice.proofs.meets.meet_of.Goals.{then-is_lower, else-is_lower}

pub loop-c-init : goal.loop-c-init
loop-c-init c = high_begins _ _ _ _ _ c.requires.bottom.within (c.requires.bottom.below _ c.requires.first) (c.requires.bottom.below _ c.requires.second)

pub loop-c-preserved : goal.loop-c-preserved
loop-c-preserved c =
    elim c.if-is_lower.branch [
      | then-is_lower w ↦
          let pair = c.is_lower.ensures.0 w.if-is_lower.true in
          rw (w.meet-is, w.get-meet.ensures)
          (high_moved _ _ _ _ _ _ _ c.count-c-end.ensures.order.transitive c.loop-c.invariant c.requires.first c.requires.second (omega arith) pair.0 pair.1
          (filled_at _ _ _ _ _ c.requires.joins c.loop-c.invariant.within (omega arith)))
      | else-is_lower w ↦ rw w.meet-is (high_kept _ _ _ _ _ _ c.loop-c.invariant (λ p q. let t = c.is_lower.ensures.1 (p, q) in cc))
    ]

pub returns : goal.returns
returns c = high_ends _ _ _ _ _ _ c.loop-c.invariant (omega arith)
