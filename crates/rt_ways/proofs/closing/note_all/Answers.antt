use Rattle.std.proofs.Common.{◌≡◌, ℕ, Some, sym, subst, Contains}
use Rattle.rt_ways.specs.Arcs.{IsInRow}
use Rattle.rt_ways.specs.Pushes.{IsNoted, IsPair, step_of}
use Rattle.rt_ways.proofs.Pushing.{grown_more, in_row, none_before, noted_all, noted_next}
use Rattle.rt_ways.proofs.closing.note_all.Goals as goal

pub loop-other-preserved : goal.loop-other-preserved
loop-other-preserved c =
    let row = c.row-other-items.result.now in record {
      grown = grown_more (λ v w. (q : ℕ) × (m : ℕ) × IsInRow c.args.rows.now c.args.parent q × (step_of c.args.steps.now.entries q c.args.label ≡ Some m) × IsPair c.args.label c.args.number m v w)
          _ c.args.fresh.now.items c.loop-other.fresh.items c.note.new.fresh.items
          (λ v w p. (_, p.0, in_row c.args.rows.now c.args.parent row c.loop-other.other-index c.row-other-items.ensures c.loop-other-test.true, p.1, p.2))
          c.loop-other.invariant.grown c.in_ok-note.ensures.grown;
      done = λ e. noted_next (IsNoted c.args.steps.now.entries c.args.rows.now c.args.label c.args.number) row c.loop-other.other-index
          (c.loop-other.invariant.done (none_before _ c.loop-other.fresh.items c.note.new.fresh.items c.in_ok-note.ensures.grown e)) (c.in_ok-note.ensures.done e);
    }

pub returns-clause-done : goal.returns-clause-done
returns-clause-done c = λ e q h.
    noted_all (IsNoted c.args.steps.now.entries c.args.rows.now c.args.label c.args.number) c.row-other-items.result.now c.loop-other.other-index c.loop-other-test.false
    (c.loop-other.invariant.done e) q (subst (λ row. Contains row q) (sym c.row-other-items.ensures) h)
