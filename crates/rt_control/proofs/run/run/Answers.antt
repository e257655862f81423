use Rattle.std.proofs.Common.{◌-◌, ◌<◌, length, List, refl, sym, subst, arith}
use Rattle.rt_control.specs.declared.run.Step.{Step}
use Rattle.rt_control.specs.Runs.{at}
use Rattle.rt_control.proofs.Running.{IsRunTo, one_more, at_most, at_begin, at_break}
use Rattle.rt_control.proofs.run.run.Goals as goal
use Rattle.rt_control.proofs.run.run.Goals.{then-loop-place-test+else-place-ge4, else-loop-place-test}

pub returns-in_default : goal.returns-in_default
returns-in_default c =
    at_break c.args.object.now c.args.jump c.loop-place.place.section c.loop-place.place.offset c.loop-place.steps.items c.loop-place.invariant c.if-place-ge4.true (c.in_default.ensures.none refl)

pub loop-place-preserved : goal.loop-place-preserved
loop-place-preserved c =
    let few : length c.loop-place.steps.items < 64 = omega arith in
    subst (λ (steps : List Step). IsRunTo c.args.object.now c.args.jump (at c.loop-place.place.section (c.loop-place.place.offset - 4)) steps) (sym c.in_ok-push.ensures.items)
    (one_more c.args.object.now c.args.jump c.loop-place.place.section c.loop-place.place.offset c.loop-place.steps.items c.in-Some.step c.loop-place.invariant few c.if-place-ge4.true c.in-Some.ensures.found)

pub returns : goal.returns
returns c = elim c.loop-place-test.branch [
  | then-loop-place-test+else-place-ge4 w ↦ at_begin c.args.object.now c.args.jump c.loop-place.place c.loop-place.steps.items c.loop-place.invariant (omega arith)
  | else-loop-place-test w ↦ at_most c.args.object.now c.args.jump c.loop-place.place c.loop-place.steps.items c.loop-place.invariant (omega arith)
]
