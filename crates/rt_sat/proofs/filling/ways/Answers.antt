use Rattle.std.proofs.Common.{◌<◌, Contains, Some, None, get_or, length, sym, ap, subst, ◌∙◌}
use Rattle.std.proofs.lemmas.List.Elements.{Contains-get_or}
use Rattle.rt_grid.specs.declared.grid.Step.{Step}
use Rattle.rt_grid.specs.Tables.{size_of}
use Rattle.rt_sat.specs.declared.family.Home.{Home}
use Rattle.rt_sat.specs.Hints.{grid_of, AreInClass}
use Rattle.rt_sat.proofs.Homes.{steps_more}
use Rattle.rt_sat.proofs.filling.ways.Goals as goal
use Rattle.rt_sat.proofs.filling.ways.Goals.{in-Some+then-home-class+then-row-place+in_ok-push, in_default}

pub loop-place-preserved : goal.loop-place-preserved
loop-place-preserved c =
    let homes = c.args.homes.now in
    let class = c.args.class in
    let place = c.loop-place.place in
    elim c.match-homes-place.branch [
      | in-Some+then-home-class+then-row-place+in_ok-push w ↦ record {
        inside = λ family are. (
            let home : Home = w.in-Some.home in
            let step : Step = record { to = home.index; count = get_or c.args.row.now place 0 } in
            let less : place < length homes = subst (λ n. place < n) c.requires c.loop-place-test.true in
            let there : Contains homes (Some home) = subst (λ h. Contains homes h) w.in-Some.is (Contains-get_or homes place None less) in
            let here : home.index < size_of (grid_of family class) = subst (λ k. home.index < size_of (grid_of family k)) w.if-home-class.true (are home there).place in
            subst (λ xs. AreInClass family class xs) (sym (ap (λ ways. ways.items) w.ways-is ∙ w.in_ok-push.ensures.items))
            (steps_more family class c.loop-place.ways.items step (c.loop-place.invariant.inside family are) here));
      }
      | in_default w ↦ record {
        inside = λ family are. subst (λ ways. AreInClass family class ways.items) (sym w.ways-is) (c.loop-place.invariant.inside family are);
      }
    ]
