use Rattle.std.proofs.Common.{◌≡◌, ◌∙◌, length, get_or, subst, sym, ap, refl, arith}
use Rattle.std.proofs.lemmas.List.Elements.{Contains-get_or}
use Rattle.rt_grid.specs.declared.grid.Step.{Step}
use Rattle.rt_grid.specs.Tables.{row_of, IsRelaxedBy}
use Rattle.rt_grid.proofs.Changing.{relaxed_more}
use Rattle.rt_grid.proofs.Writing.{list_read, read_within}
use Rattle.rt_grid.proofs.grid.relax_all.Goals.{then-step-place+then-changed-step, else-step-place}
use Rattle.rt_grid.proofs.grid.relax_all.Goals as goal

pub bounds-changed-step : goal.bounds-changed-step
bounds-changed-step c =
    let within = read_within (length c.args.rows.now) c.args.steps.now c.loop-step.step-index c.requires.steps c.loop-step-test.true in
    omega arith

pub offset_bounds-changed-step : goal.offset_bounds-changed-step
offset_bounds-changed-step c =
    let within = read_within (length c.args.rows.now) c.args.steps.now c.loop-step.step-index c.requires.steps c.loop-step-test.true in
    omega arith

pub relax-any-requires : goal.relax-any-requires
relax-any-requires c =
    let rows = c.args.rows.now in
    let s : Step = get_or c.args.steps.now c.loop-step.step-index (record { to = 0; count = 0 }) in
    let within = read_within (length rows) c.args.steps.now c.loop-step.step-index c.requires.steps c.loop-step-test.true in
    let is : c.items.result.now ≡ row_of rows s.to = list_read rows rows s.to c.items.result.now c.index-rows-step.result refl within c.items.ensures c.index-rows-step.is in
    ap length is ∙ c.requires.square s.to within c.if-step-place.true ∙ sym c.requires.row ∙ sym c.loop-step.invariant.each

pub loop-step-preserved : goal.loop-step-preserved
loop-step-preserved c =
    let rows = c.args.rows.now in
    let steps = c.args.steps.now in
    let i = c.loop-step.step-index in
    let s : Step = get_or c.args.steps.now c.loop-step.step-index (record { to = 0; count = 0 }) in
    let within = read_within (length rows) steps i c.requires.steps c.loop-step-test.true in
    record {
      each = c.if-step-place.auto.row ∙ c.loop-step.invariant.each;
      counts = elim c.if-step-place.branch [
        | then-step-place+then-changed-step w ↦
            let is : w.items.result.now ≡ row_of rows s.to = list_read rows rows s.to w.items.result.now w.index-rows-step.result refl within w.items.ensures w.index-rows-step.is in
            subst (IsRelaxedBy c.args.row.now rows steps) (sym w.row-is)
            (relaxed_more c.args.row.now c.loop-step.row w.relax-any.new.row rows steps s w.items.result.now (Contains-get_or steps i (record { to = 0; count = 0 }) c.loop-step-test.true) is c.loop-step.invariant.counts w.relax-any.ensures.counts)
        | else-step-place w ↦ subst (IsRelaxedBy c.args.row.now rows steps) (sym w.row-is) c.loop-step.invariant.counts
      ];
    }
