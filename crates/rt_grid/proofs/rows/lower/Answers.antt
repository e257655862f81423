use Rattle.std.proofs.Common.{◌<◌, ◌∙◌, get_or, length, sym, subst, arith}
use Rattle.std.proofs.lemmas.List.Elements.{Contains-get_or}
use Rattle.rt_grid.specs.declared.grid.Step.{Step}
use Rattle.rt_grid.specs.Tables.{IsLowered}
use Rattle.rt_grid.proofs.Changing.{lowered_more}
use Rattle.rt_grid.proofs.Writing.{read_within}
use Rattle.rt_grid.proofs.rows.lower.Goals.{then-step-row, else-step-row}
use Rattle.rt_grid.proofs.rows.lower.Goals as goal

pub bounds-row-step : goal.bounds-row-step
bounds-row-step c = omega (arith, read_within (length c.args.row.now) c.args.steps.now c.loop-step.step-index c.requires c.loop-step-test.true, c.loop-step.invariant.each)

pub loop-step-preserved : goal.loop-step-preserved
loop-step-preserved c =
    let first = c.args.row.now in
    let steps = c.args.steps.now in
    let s : Step = get_or steps c.loop-step.step-index (record { to = 0; count = 0 }) in
    let within : s.to < length first = read_within (length first) steps c.loop-step.step-index c.requires c.loop-step-test.true in
    record {
      each = c.if-step-row.auto.row ∙ c.loop-step.invariant.each;
      counts = elim c.if-step-row.branch [
        | then-step-row w ↦ subst (IsLowered first steps) (sym w.row-is)
            (lowered_more first c.loop-step.row steps s (Contains-get_or steps c.loop-step.step-index (record { to = 0; count = 0 }) c.loop-step-test.true) (subst (λ n. s.to < n) (sym c.loop-step.invariant.each) within) c.loop-step.invariant.counts)
        | else-step-row w ↦ subst (IsLowered first steps) (sym w.row-is) c.loop-step.invariant.counts
      ];
    }
