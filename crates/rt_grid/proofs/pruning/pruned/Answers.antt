use Rattle.std.proofs.Common.{inl, inr, Contains, length, get_or, subst, ◌∙◌}
use Rattle.std.proofs.lemmas.List.Elements.{Contains-get_or, Contains-push_cases}
use Rattle.rt_grid.specs.declared.grid.Step.{Step}
use Rattle.rt_grid.proofs.Writing.{read_within}
use Rattle.rt_grid.proofs.pruning.pruned.Goals.{then-step-level+then-not-is_spare+in_ok-push, else-step-level}
use Rattle.rt_grid.proofs.pruning.pruned.Goals as goal

pub is_spare-requires-clause-kept : goal.is_spare-requires-clause-kept
is_spare-requires-clause-kept c = λ s h. c.requires.steps s (c.loop-step.invariant s (subst (λ xs. Contains xs s) c.items.ensures h))

pub is_spare-requires-clause-step : goal.is_spare-requires-clause-step
is_spare-requires-clause-step c = read_within (length c.args.rows.now) c.args.steps.now c.loop-step.step-index c.requires.steps c.loop-step-test.true

pub loop-step-preserved : goal.loop-step-preserved
loop-step-preserved c =
    let steps = c.args.steps.now in
    let step : Step = get_or c.args.steps.now c.loop-step.step-index (record { to = 0; count = 0 }) in
    elim c.if-step-level.branch [
      | then-step-level+then-not-is_spare+in_ok-push w ↦ λ s h. elim (Contains-push_cases c.loop-step.kept step s (subst (λ xs. Contains xs s) (w.kept-is ∙ w.in_ok-push.ensures.ok) h)) [
        | inl before ↦ c.loop-step.invariant s before
        | inr same ↦ subst (Contains steps) same (Contains-get_or steps c.loop-step.step-index (record { to = 0; count = 0 }) c.loop-step-test.true)
      ]
      | else-step-level w ↦ λ s h. c.loop-step.invariant s (subst (λ xs. Contains xs s) w.kept-is h)
    ]
