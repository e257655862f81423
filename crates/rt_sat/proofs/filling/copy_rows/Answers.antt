use Rattle.std.proofs.Common.{List, Contains, Some, None, sym, subst, ◌∙◌}
use Rattle.std.proofs.lemmas.List.Elements.{Contains-get_or}
use Rattle.rt_grid.specs.declared.grid.Step.{Step}
use Rattle.rt_sat.specs.Hints.{AreInClass, AreSameMembers, IsFamily}
use Rattle.rt_sat.specs.Inside.Filling.{AreInFamily}
use Rattle.rt_sat.proofs.Turning.{homes_kept}
use Rattle.rt_sat.proofs.filling.copy_rows.Goals as goal
use Rattle.rt_sat.proofs.filling.copy_rows.Goals.{in-Some+in_ok-ways+in_ok-lower, in_default}

pub lower-requires-clause-family : goal.lower-requires-clause-family
lower-requires-clause-family c = (c.requires.family.0, c.loop-place.invariant.family c.requires.family.0 c.requires.family.1)

pub lower-requires-clause-class : goal.lower-requires-clause-class
lower-requires-clause-class c =
    let homes = c.args.homes.now in
    let there : Contains homes (Some c.in-Some.home) = subst (λ h. Contains homes h) c.in-Some.is (Contains-get_or homes c.loop-place.place None c.loop-place-test.true) in
    (homes_kept c.requires.family.0 c.args.family.now c.loop-place.family c.loop-place.invariant.same c.requires.family.1
    (c.loop-place.invariant.family c.requires.family.0 c.requires.family.1) homes c.requires.homes c.in-Some.home there).class

pub lower-requires-clause-place : goal.lower-requires-clause-place
lower-requires-clause-place c =
    let homes = c.args.homes.now in
    let there : Contains homes (Some c.in-Some.home) = subst (λ h. Contains homes h) c.in-Some.is (Contains-get_or homes c.loop-place.place None c.loop-place-test.true) in
    (homes_kept c.requires.family.0 c.args.family.now c.loop-place.family c.loop-place.invariant.same c.requires.family.1
    (c.loop-place.invariant.family c.requires.family.0 c.requires.family.1) homes c.requires.homes c.in-Some.home there).place

pub lower-requires-clause-ways : goal.lower-requires-clause-ways
lower-requires-clause-ways c =
    let homes = c.args.homes.now in
    let are : AreInFamily c.loop-place.family homes = homes_kept c.requires.family.0 c.args.family.now c.loop-place.family c.loop-place.invariant.same c.requires.family.1
    (c.loop-place.invariant.family c.requires.family.0 c.requires.family.1) homes c.requires.homes in
    subst (λ (xs : List Step). AreInClass c.loop-place.family c.in-Some.home.class xs) (sym c.deref.ensures.value) (c.in_ok-ways.ensures c.loop-place.family are)

pub loop-place-preserved : goal.loop-place-preserved
loop-place-preserved c = elim c.match-homes-place.branch [
  | in-Some+in_ok-ways+in_ok-lower w ↦ record {
    same = subst (AreSameMembers c.args.family.now) (sym w.family-is) (w.in_ok-lower.ensures.same ∙ c.loop-place.invariant.same);
    family = λ count before. subst (IsFamily count) (sym w.family-is) (w.in_ok-lower.ensures.family count (c.loop-place.invariant.family count before));
  }
  | in_default w ↦ record {
    same = subst (AreSameMembers c.args.family.now) (sym w.family-is) c.loop-place.invariant.same;
    family = λ count before. subst (IsFamily count) (sym w.family-is) (c.loop-place.invariant.family count before);
  }
]
