use Rattle.std.proofs.Common.{◌≡◌, ℕ, ◌*◌, ◌<◌, List, [], arith, length, ap, subst, sym, ◌∙◌}
use Rattle.std.proofs.lemmas.List.{get_or_read}
use Rattle.rt_grid.specs.Tables.{size_of}
use Rattle.rt_sat.specs.declared.family.Family.{Family}
use Rattle.rt_sat.specs.Hints.{grid_of, members_of, IsFamily}
use Rattle.rt_sat.specs.Inside.Filling.{AreInFamily, AreTurnedIn}
use Rattle.rt_sat.proofs.Turning.{homes_kept, turned_kept}
use Rattle.rt_sat.proofs.filling.turn_class.Goals as goal

pub turn_member-requires-clause-family : goal.turn_member-requires-clause-family
turn_member-requires-clause-family c = (c.requires.family.0, c.loop-index.invariant.family c.requires.family.0 c.requires.family.1)

pub turn_member-requires-clause-homes : goal.turn_member-requires-clause-homes
turn_member-requires-clause-homes c =
    let old : Family = c.args.family.now in
    let before : IsFamily c.requires.family.0 old = c.requires.family.1 in
    homes_kept c.requires.family.0 old c.loop-index.family c.loop-index.invariant.same before (c.loop-index.invariant.family c.requires.family.0 before)
    c.deref.result.now (subst (AreInFamily old) (sym c.deref.ensures.value) c.in_ok-homes.ensures.inside)

pub turn_member-requires-clause-outer : goal.turn_member-requires-clause-outer
turn_member-requires-clause-outer c =
    let old : Family = c.args.family.now in
    let class : ℕ = c.args.class in
    let before : IsFamily c.requires.family.0 old = c.requires.family.1 in
    let less : class < length old.members.items = omega (arith, c.if-class-len.false, c.len.ensures) in
    let members : c.items-2.result.now ≡ members_of old class = c.items-2.ensures ∙ get_or_read old.members.items class c.index-2.result.now less c.index-2.ensures [] in
    let size : 2 * length c.items-2.result.now ≡ size_of (grid_of old class) = ap (λ (xs : List ℕ). 2 * length xs) members ∙ sym (before.sizes class less) in
    turned_kept c.requires.family.0 old c.loop-index.family c.loop-index.invariant.same before (c.loop-index.invariant.family c.requires.family.0 before)
    class c.deref-in-loop-index.result.now less
    (subst (λ xs. AreTurnedIn (size_of (grid_of old class)) xs) (sym c.deref-in-loop-index.ensures.value) (subst (λ n. AreTurnedIn n c.in_ok-outer.outer.items) size c.in_ok-outer.ensures))

pub loop-index-preserved : goal.loop-index-preserved
loop-index-preserved c = record {
  same = c.in_ok-turn_member.ensures.same ∙ c.loop-index.invariant.same;
  family = λ count before. c.in_ok-turn_member.ensures.family count (c.loop-index.invariant.family count before);
}
