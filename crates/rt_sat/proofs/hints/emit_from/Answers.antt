use Rattle.std.proofs.Common.{◌<◌, List, Contains, get_or, refl, subst}
use Rattle.rt_base.proofs.Lists.{Contains-read}
use Rattle.rt_grid.specs.declared.grid.Step.{Step}
use Rattle.rt_sat.specs.Hints.{IsOfStep, IsStepFrom}
use Rattle.rt_sat.proofs.Emitting.{more_more, more_none}
use Rattle.rt_sat.proofs.hints.emit_from.Goals as goal

abbrev no_step : Step
no_step = record { to = 0; count = 0 }

pub emit_step-requires-clause-from : goal.emit_step-requires-clause-from
emit_step-requires-clause-from c = subst (λ n. c.args.index < n) c.requires.size c.requires.index

pub emit_step-requires-clause-to : goal.emit_step-requires-clause-to
emit_step-requires-clause-to c =
    let steps : List Step = c.steps-step-items.result.now in
    let step : Step = get_or steps c.loop-step.step-index no_step in
    subst (λ n. step.to < n) c.requires.size (c.steps-step-items.ensures.inside step (Contains-read steps c.loop-step.step-index no_step step c.loop-step-test.true refl))

pub loop-step-init : goal.loop-step-init
loop-step-init c = more_none (IsStepFrom c.args.members.now c.args.grid.now c.args.index) c.args.edges.now.items

pub loop-step-preserved : goal.loop-step-preserved
loop-step-preserved c =
    let From = IsStepFrom c.args.members.now c.args.grid.now c.args.index in
    let steps : List Step = c.steps-step-items.result.now in
    let step : Step = get_or steps c.loop-step.step-index no_step in
    let there : Contains steps step = Contains-read steps c.loop-step.step-index no_step step c.loop-step-test.true refl in
    more_more From (IsOfStep c.args.members.now c.args.index step) c.args.edges.now.items c.loop-step.edges.items c.emit_step.new.edges.items
    (λ e p. record { step = step; listed = subst (λ (xs : List Step). Contains xs step) c.steps-step-items.ensures.steps there; inside = c.steps-step-items.ensures.inside step there; is = p }) c.loop-step.invariant c.in_ok-emit_step.ensures
