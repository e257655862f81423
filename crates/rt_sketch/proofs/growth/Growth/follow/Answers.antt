use Rattle.std.proofs.Common.{◌≡◌, Option, Some, None, sym, subst}
use Rattle.std.specs.List.{slice_get}
use Rattle.rt_sketch.specs.declared.state.State.{State}
use Rattle.rt_sketch.specs.States.{LeadsTo}
use Rattle.rt_sketch.proofs.Growing.{marks_next, step_missing, step_taken}
use Rattle.rt_sketch.proofs.growth.Growth.follow.Goals as goal

pub returns-in_ok-enter-in-Some-2-clause-marks : goal.returns-in_ok-enter-in-Some-2-clause-marks
returns-in_ok-enter-in-Some-2-clause-marks c = λ lines is constants was.
    marks_next lines c.args.machine.now c.args.lattice.now.order c.args.self.now.states.keys c.args.self.now.tree c.enter.new.self.states.keys c.enter.new.self.tree c.in-Some-2.next c.mark-marks.result
    c.in_ok-enter-in-Some-2.ensures.marks (λ x d. c.mark-marks.ensures lines x is constants d) was

pub returns-in_ok-enter-in-Some-2-clause-step : goal.returns-in_ok-enter-in-Some-2-clause-step
returns-in_ok-enter-in-Some-2-clause-step c = λ lines is.
    let here : slice_get c.args.self.now.states.keys c.args.number ≡ Some c.in-Some.state.now = sym c.in-Some.ensures.key in
    let leads : LeadsTo lines c.args.machine.now c.in-Some.state.now c.args.label (Some c.in-Some-2.next) =
    subst (λ (o : Option State). LeadsTo lines c.args.machine.now c.in-Some.state.now c.args.label o) c.in-Some-2.is (c.in_ok-next.ensures lines is) in
    step_taken lines c.args.machine.now c.args.self.now.states.keys c.enter.new.self.states.keys c.enter.new.self.tree c.args.number c.args.label c.in-Some.state.now c.in-Some-2.next c.in_ok-enter-in-Some-2.ensures.more.kept here leads
    c.in_ok-enter-in-Some-2.ensures.to

pub returns-in-None-clause-step : goal.returns-in-None-clause-step
returns-in-None-clause-step c = λ lines is.
    let here : slice_get c.args.self.now.states.keys c.args.number ≡ Some c.in-Some.state.now = sym c.in-Some.ensures.key in
    let leads : LeadsTo lines c.args.machine.now c.in-Some.state.now c.args.label None =
    subst (λ (o : Option State). LeadsTo lines c.args.machine.now c.in-Some.state.now c.args.label o) c.in-None.is (c.in_ok-next.ensures lines is) in
    step_missing lines c.args.machine.now c.args.self.now.states.keys c.args.self.now.tree c.args.number c.args.label c.in-Some.state.now here c.requires.free leads
