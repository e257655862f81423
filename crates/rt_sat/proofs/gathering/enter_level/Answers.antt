use Rattle.std.proofs.Common.{◌<◌, ◌∙◌, get_or, refl, subst, sym}
use Rattle.std.proofs.lemmas.List.Elements.{Contains-get_or}
use Rattle.rt_grid.specs.declared.grid.Step.{Step}
use Rattle.rt_sat.proofs.ToldPushes.{entered_more, entered_none}
use Rattle.rt_sat.proofs.gathering.enter_level.Goals as goal

pub loop-step-init : goal.loop-step-init
loop-step-init c = record { size = refl; holds = entered_none c.args.from c.args.found.now c.args.grid.now }

pub enter_step-requires-clause-to : goal.enter_step-requires-clause-to
enter_step-requires-clause-to c =
    let step : Step = get_or c.args.found.now c.loop-step.step-index (record { to = 0; count = 0 }) in
    subst (λ n. step.to < n) (sym c.loop-step.invariant.size) (c.requires.inside step (Contains-get_or c.args.found.now c.loop-step.step-index (record { to = 0; count = 0 }) c.loop-step-test.true))

pub loop-step-preserved : goal.loop-step-preserved
loop-step-preserved c =
    let step : Step = get_or c.args.found.now c.loop-step.step-index (record { to = 0; count = 0 }) in
    record {
      size = c.in_ok-enter_step.ensures.size ∙ c.loop-step.invariant.size;
      holds = entered_more c.args.from c.args.found.now c.args.grid.now c.loop-step.grid c.enter_step.new.grid step (Contains-get_or c.args.found.now c.loop-step.step-index (record { to = 0; count = 0 }) c.loop-step-test.true) c.loop-step.invariant.holds c.in_ok-enter_step.ensures.holds;
    }
