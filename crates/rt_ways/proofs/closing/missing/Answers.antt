use Rattle.std.proofs.Common.{inl, inr, arith}
use Rattle.rt_ways.specs.Arcs.{IsInRow}
use Rattle.rt_ways.specs.Pushes.{IsClosedAt}
use Rattle.rt_ways.proofs.Pushing.{closed_all, closed_next, none_before}
use Rattle.rt_ways.proofs.closing.missing.Goals as goal

pub loop-number-preserved : goal.loop-number-preserved
loop-number-preserved c = record {
  pushed = λ v w h. (elim (c.in_ok-note_number.ensures.grown.only v w h) [ inl d ↦ c.loop-number.invariant.pushed v w d | inr p ↦ p ]);
  done = λ e. closed_next (IsClosedAt c.args.named.now (IsInRow c.args.rows.now)) c.loop-number.number
      (c.loop-number.invariant.done (none_before _ c.loop-number.fresh.items c.note_number.new.fresh.items c.in_ok-note_number.ensures.grown e)) (c.in_ok-note_number.ensures.done e);
}

pub returns-clause-done : goal.returns-clause-done
returns-clause-done c = λ e.
    closed_all c.args.named.now (IsInRow c.args.rows.now) (λ n h. c.loop-number.invariant.done e n (omega (arith, h, c.loop-number-test.false, c.len-number-end.ensures.count)))
