use Rattle.std.proofs.Common.{◌<◌, Contains, get_or, inl, inr, length, subst, sym}
use Rattle.std.proofs.lemmas.List.Elements.{Contains-get_or, Contains-push_cases}
use Rattle.rt_grid.specs.declared.grid.Step.{Step}
use Rattle.rt_sat.specs.Hints.{AreToldSteps}
use Rattle.rt_sat.proofs.ToldPushes.{no_end, steps_more}
use Rattle.rt_sat.proofs.stepping.gathered.Goals as goal
use Rattle.rt_sat.proofs.stepping.gathered.Goals.{in-Some+in_ok-push, in_default}

pub loop-i-preserved : goal.loop-i-preserved
loop-i-preserved c =
    let source = c.args.source.now in
    elim c.match-pushed_step.branch [
      | in-Some+in_ok-push w ↦ record {
        inside = λ s h. elim (Contains-push_cases c.loop-i.found.items w.in-Some.step s (subst (λ xs. Contains xs s) w.in_ok-push.ensures.items (subst (λ found. Contains found.items s) w.found-is h))) [
          | inl old ↦ c.loop-i.invariant.inside s old
          | inr same ↦ subst (λ (t : Step). t.to < length c.args.known.now) same w.in-Some.ensures.inside
        ];
        told = λ known flips lines members into are tied row.
            subst (λ found. AreToldSteps known flips lines source.stand into source.home.class found.items) (sym w.found-is)
            (steps_more known flips lines source.stand into source.home.class c.loop-i.found.items w.push.new.self.items w.in-Some.step (c.loop-i.invariant.told known flips lines members into are tied row)
            (w.in-Some.ensures.told known flips lines members into are.0 (are.1 (get_or c.args.targets.now c.loop-i.i no_end) (Contains-get_or c.args.targets.now c.loop-i.i no_end c.loop-i-test.true))
            tied.0 (tied.1 (get_or c.args.targets.now c.loop-i.i no_end) (Contains-get_or c.args.targets.now c.loop-i.i no_end c.loop-i-test.true)) row) w.in_ok-push.ensures.items);
      }
      | in_default w ↦ record {
        inside = λ s h. c.loop-i.invariant.inside s (subst (λ found. Contains found.items s) w.found-is h);
        told = λ known flips lines members into are tied row.
            subst (λ found. AreToldSteps known flips lines source.stand into source.home.class found.items) (sym w.found-is) (c.loop-i.invariant.told known flips lines members into are tied row);
      }
    ]

pub pushed_step-requires : goal.pushed_step-requires
pushed_step-requires c = c.requires (get_or c.args.targets.now c.loop-i.i no_end) (Contains-get_or c.args.targets.now c.loop-i.i no_end c.loop-i-test.true)
