use Rattle.std.proofs.Common.{◌≡◌, ℕ, ◌<◌, List, length, refl, sym, ap, subst, ◌∙◌}
use Rattle.std.proofs.Math.ListN.{length-set}
use Rattle.std.proofs.lemmas.List.{get_or_default}
use Rattle.std.specs.Vec.{with_item}
use Rattle.rt_grid.specs.Tables.{Table, size_of, Holds, Made, Says}
use Rattle.rt_sat.specs.declared.family.Family.{Family}
use Rattle.rt_sat.specs.Inside.Checks.{AreWalked}
use Rattle.rt_sat.specs.Hints.{grid_of, members_of, no_table, IsFamily, IsToldFamily}
use Rattle.rt_sat.proofs.Families.{family_changed, told_changed}
use Rattle.rt_sat.proofs.Walking.{walked_closed, walked_pruned}
use Rattle.rt_sat.proofs.Telling.{told_closed, told_pruned}
use Rattle.rt_sat.proofs.family.Family.close.Goals as goal

pub returns-clause-told : goal.returns-clause-told
returns-clause-told c known flips lines before =
    let old : Family = c.args.self.now in
    let class : ℕ = c.args.class in
    let less : class < length old.members.items = c.requires.class in
    let members : List ℕ = members_of old class in
    let count : ℕ = c.requires.family.0 in
    let is : IsFamily count old = c.requires.family.1 in
    let mid : Family = record { members = old.members; grids = with_item old.grids class c.close.new.self; homes = old.homes } in
    let grid : c.index_mut.result.now ≡ grid_of old class = c.index_mut.ensures.value ∙ get_or_default old.grids.items class c.index_mut.result.now no_table (subst (λ n. class < n) (sym is.each) less) in
    let closed : Holds (Made (Says (grid_of old class))) c.close.new.self = subst (λ (t : Table). Holds (Made (Says t)) c.close.new.self) grid c.in_ok-close.ensures.holds in
    let between : IsToldFamily known flips lines mid = told_changed old mid class c.close.new.self less refl refl known flips lines is.each
    (told_closed known flips lines members (grid_of old class) c.close.new.self (before class less) closed) before in
    let mid_is : IsFamily count mid = family_changed old mid class c.close.new.self less refl refl count (c.in_ok-close.ensures.size ∙ ap size_of grid) is in
    let again : c.index_mut-2.result.now ≡ grid_of mid class = c.index_mut-2.ensures.value ∙ get_or_default mid.grids.items class c.index_mut-2.result.now no_table (subst (λ n. class < n) (sym mid_is.each) less) in
    let pruned : Holds (Says (grid_of mid class)) c.prune.new.self = subst (λ (t : Table). Holds (Says t) c.prune.new.self) again c.in_ok-prune.ensures.holds in
    told_changed mid (record { members = old.members; grids = with_item mid.grids class c.prune.new.self; homes = old.homes }) class c.prune.new.self less refl refl known flips lines mid_is.each
    (told_pruned known flips lines members (grid_of mid class) c.prune.new.self (between class less) pruned) between

pub returns-clause-walked : goal.returns-clause-walked
returns-clause-walked c edges before =
    let old : Family = c.args.self.now in
    let class : ℕ = c.args.class in
    let is : IsFamily c.requires.family.0 old = c.requires.family.1 in
    let mid : Family = record { members = old.members; grids = with_item old.grids class c.close.new.self; homes = old.homes } in
    let new : Family = record { members = old.members; grids = with_item mid.grids class c.prune.new.self; homes = old.homes } in
    let between : AreWalked mid edges = walked_closed edges old mid class c.index_mut.result.now c.close.new.self c.requires.class is.each
    c.index_mut.ensures.value refl refl c.in_ok-close.ensures.holds before in
    let each : length mid.grids.items ≡ length old.members.items = simp length-set is.each in
    walked_pruned edges mid new class c.index_mut-2.result.now c.prune.new.self c.requires.class each c.index_mut-2.ensures.value refl refl
    c.in_ok-prune.ensures.holds between
