use Rattle.std.proofs.Common.{◌≡◌, ◌<◌, true, [], refl, sym, ap, subst, ◌∙◌}
use Rattle.rt_plan.specs.Driver.{IsFrontOf, next_state, turn_of}
use Rattle.rt_plan.specs.Plans.{start}
use Rattle.rt_solve.specs.Claimed.{Claimed}
use Rattle.rt_solve.specs.Inside.Turns.{Turns}
use Rattle.rt_solve.proofs.Driving.{IsDriving, all_claims, begins, driving_more, front, less_left, lower_now, risen_all, turn_number}
use Rattle.rt_solve.proofs.driver.drive.Goals as goal

pub loop-goes_on-init : goal.loop-goes_on-init
loop-goes_on-init g c =
    let first = c.args.run.now in
    let number = c.args.schedule.now.number in
    record {
      number = refl;
      driving = subst (λ state. IsDriving first first number state c.args.schedule.now.claims c.args.steps.now c.args.steps.now true)
          (sym c.number-state.ensures)
          (subst (λ claims. IsDriving first first number number claims c.args.steps.now c.args.steps.now true) (sym c.requires.schedule)
          (begins first c.requires.task number c.args.steps.now c.requires.start));
    }

pub turn-requires-clause-workers : goal.turn-requires-clause-workers
turn-requires-clause-workers g c = c.loop-goes_on.invariant.driving.workers

pub turn-requires-clause-lower : goal.turn-requires-clause-lower
turn-requires-clause-lower g c =
    let now = c.loop-goes_on in
    lower_now c.args.run.now c.requires.task now.run c.args.schedule.now.number now.state now.schedule.claims c.args.steps.now now.steps
    now.goes_on now.invariant.driving

pub turn-requires-clause-driven : goal.turn-requires-clause-driven
turn-requires-clause-driven g c = c.loop-goes_on.invariant.driving.are_driven

pub returns-in_err-goes_on-clause-number : goal.returns-in_err-goes_on-clause-number
returns-in_err-goes_on-clause-number g c =
    ap (λ (s : Claimed). s.number) c.in_err-goes_on.ensures.err ∙ c.loop-goes_on.invariant.number

pub returns-in_err-goes_on-clause-front : goal.returns-in_err-goes_on-clause-front
returns-in_err-goes_on-clause-front g c =
    let now = c.loop-goes_on in
    subst (λ (s : Claimed). IsFrontOf c.args.schedule.now.number (start 4 c.args.run.now.task.callees) s.claims)
    (sym c.in_err-goes_on.ensures.err)
    (front c.args.run.now c.requires.task now.run c.args.schedule.now.number now.state now.schedule.claims c.args.steps.now now.steps
    now.goes_on now.invariant.driving)

pub loop-goes_on-smaller : goal.loop-goes_on-smaller
loop-goes_on-smaller g c =
    let now = c.loop-goes_on in
    let more = c.in_ok-goes_on.goes_on in
    let worker : c.turn_of.result ≡ turn_of (next_state now.state) = c.turn_of.ensures.worker ∙ ap turn_of c.next_state-state.ensures in
    less_left c.args.run.now c.requires.task now.run c.args.schedule.now.number now.state now.schedule.claims c.args.steps.now now.steps
    now.goes_on now.invariant.driving c.turn.new.run now.schedule c.turn.new.schedule c.turn.new.steps refl more c.loop-goes_on-test.true
    (subst (λ w. Turns more w now.run c.turn.new.run now.schedule c.turn.new.schedule now.steps c.turn.new.steps) worker
    c.in_ok-goes_on.ensures.turns)

pub loop-goes_on-preserved : goal.loop-goes_on-preserved
loop-goes_on-preserved g c =
    let now = c.loop-goes_on in
    let more = c.in_ok-goes_on.goes_on in
    let first = c.args.run.now in
    let number = c.args.schedule.now.number in
    let worker : c.turn_of.result ≡ turn_of (next_state now.state) = c.turn_of.ensures.worker ∙ ap turn_of c.next_state-state.ensures in
    let turns : Turns more (turn_of (next_state now.state)) now.run c.turn.new.run now.schedule c.turn.new.schedule now.steps c.turn.new.steps =
    subst (λ w. Turns more w now.run c.turn.new.run now.schedule c.turn.new.schedule now.steps c.turn.new.steps) worker
    c.in_ok-goes_on.ensures.turns in
    let driving = driving_more first c.requires.task now.run number now.state now.schedule.claims c.args.steps.now now.steps now.goes_on
    now.invariant.driving c.turn.new.run now.schedule c.turn.new.schedule c.turn.new.steps refl more
    (subst (λ w. w < 4) worker c.turn_of.ensures.within) turns in
    record {
      number = turn_number more (turn_of (next_state now.state)) now.run c.turn.new.run now.schedule c.turn.new.schedule now.steps c.turn.new.steps
          turns ∙ now.invariant.number;
      driving = subst (λ state. IsDriving first c.turn.new.run number state c.turn.new.schedule.claims c.args.steps.now c.turn.new.steps more)
          (sym c.next_state-state.ensures) driving;
    }

pub returns-clause-claims : goal.returns-clause-claims
returns-clause-claims g c =
    let now = c.loop-goes_on in
    all_claims c.args.run.now c.requires.task now.run c.args.schedule.now.number now.state now.schedule.claims c.args.steps.now now.steps
    now.goes_on now.invariant.driving c.loop-goes_on-test.false

pub returns-clause-front : goal.returns-clause-front
returns-clause-front g c =
    let now = c.loop-goes_on in
    front c.args.run.now c.requires.task now.run c.args.schedule.now.number now.state now.schedule.claims c.args.steps.now now.steps
    now.goes_on now.invariant.driving

pub returns-clause-rose : goal.returns-clause-rose
returns-clause-rose g c =
    let now = c.loop-goes_on in
    risen_all c.args.run.now c.requires.task now.run c.args.schedule.now.number now.state now.schedule.claims c.args.steps.now now.steps
    now.goes_on now.invariant.driving c.loop-goes_on-test.false
