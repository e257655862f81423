use Rattle.std.proofs.Common.{◌≡◌, ℕ, Some, arith}
use Rattle.rt_ways.specs.Arcs.{IsInRow}
use Rattle.rt_ways.specs.Pushes.{IsMade, IsPushed, IsPair, step_of}
use Rattle.rt_ways.proofs.Pushing.{closed_at, grown_by, pushed_by}
use Rattle.rt_ways.proofs.closing.note_number.Goals as goal

pub returns-in_ok-note_all-in-Longer-clause-grown : goal.returns-in_ok-note_all-in-Longer-clause-grown
returns-in_ok-note_all-in-Longer-clause-grown c =
    let made : IsMade c.args.named.now c.args.number c.in-Longer.parent c.in-Longer.label = record { within = c.requires.number; parent = omega (arith, c.requires.number, c.in-Longer.ensures.below); is = c.in-Longer.ensures.made } in
    grown_by (λ v w. (q : ℕ) × (m : ℕ) × IsInRow c.args.rows.now c.in-Longer.parent q × (step_of c.args.steps.now.entries q c.in-Longer.label ≡ Some m) × IsPair c.in-Longer.label c.args.number m v w)
    (IsPushed c.args.named.now (IsInRow c.args.rows.now)) c.args.fresh.now.items c.note_all.new.fresh.items
    (λ v w p. pushed_by c.args.named.now c.args.steps.now.entries (IsInRow c.args.rows.now) c.args.number c.in-Longer.parent p.0 p.1 v w c.in-Longer.label c.requires.steps made p.2 p.3 p.4)
    c.in_ok-note_all-in-Longer.ensures.grown

pub returns-in_ok-note_all-in-Longer-clause-done : goal.returns-in_ok-note_all-in-Longer-clause-done
returns-in_ok-note_all-in-Longer-clause-done c = λ e.
    let made : IsMade c.args.named.now c.args.number c.in-Longer.parent c.in-Longer.label = record { within = c.requires.number; parent = omega (arith, c.requires.number, c.in-Longer.ensures.below); is = c.in-Longer.ensures.made } in
    closed_at c.args.named.now c.args.steps.now.entries c.args.rows.now c.args.number c.in-Longer.parent c.in-Longer.label c.requires.distinct c.requires.steps made
    (c.in_ok-note_all-in-Longer.ensures.done e)
