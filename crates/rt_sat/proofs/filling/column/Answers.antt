use Rattle.std.proofs.Common.{◌<◌, Contains, get_or, inl, inr, subst}
use Rattle.std.proofs.lemmas.List.Elements.{Contains-get_or, Contains-push_cases}
use Rattle.rt_grid.specs.declared.grid.Step.{Step}
use Rattle.rt_grid.specs.Tables.{size_of}
use Rattle.rt_sat.specs.declared.filling.Turned.{Turned}
use Rattle.rt_sat.proofs.filling.column.Goals as goal
use Rattle.rt_sat.proofs.filling.column.Goals.{then-count+in_ok-push, else-count}

pub row-requires : goal.row-requires
row-requires c =
    let at : Turned = get_or c.args.outer.now c.loop-turned.turned-index (record { forth = 0; back = 0 }) in
    (c.requires.outer at (Contains-get_or c.args.outer.now c.loop-turned.turned-index (record { forth = 0; back = 0 }) c.loop-turned-test.true)).1

pub loop-turned-preserved : goal.loop-turned-preserved
loop-turned-preserved c =
    let outer = c.args.outer.now in
    let at : Turned = get_or outer c.loop-turned.turned-index (record { forth = 0; back = 0 }) in
    elim c.if-count.branch [
      | then-count+in_ok-push w ↦ record {
        within = λ s h. elim (Contains-push_cases c.loop-turned.ways.items (record { to = at.forth; count = get_or c.row.result.now c.args.place 0 }) s (subst (λ xs. Contains xs s) w.in_ok-push.ensures.items (subst (λ ways. Contains ways.items s) w.ways-is h))) [
          | inl old ↦ c.loop-turned.invariant.within s old
          | inr same ↦ subst (λ (t : Step). t.to < size_of c.args.grid.now) same (c.requires.outer at (Contains-get_or outer c.loop-turned.turned-index (record { forth = 0; back = 0 }) c.loop-turned-test.true)).0
        ];
      }
      | else-count w ↦ record { within = λ s h. c.loop-turned.invariant.within s (subst (λ ways. Contains ways.items s) w.ways-is h) }
    ]
