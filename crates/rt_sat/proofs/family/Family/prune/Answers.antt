use Rattle.std.proofs.Common.{◌≡◌, ℕ, ◌<◌, length, refl, sym, subst, ◌∙◌}
use Rattle.std.proofs.lemmas.List.{get_or_default}
use Rattle.std.specs.Vec.{with_item}
use Rattle.rt_grid.specs.Tables.{Table, Holds, Says}
use Rattle.rt_sat.specs.declared.family.Family.{Family}
use Rattle.rt_sat.specs.Hints.{grid_of, members_of, no_table, IsFamily}
use Rattle.rt_sat.proofs.Families.{told_changed}
use Rattle.rt_sat.proofs.Telling.{told_pruned}
use Rattle.rt_sat.proofs.family.Family.prune.Goals as goal

pub returns-clause-told : goal.returns-clause-told
returns-clause-told c = λ known flips lines before. (
    let old : Family = c.args.self.now in
    let class : ℕ = c.args.class in
    let less : class < length old.members.items = c.requires.class in
    let is : IsFamily c.requires.family.0 old = c.requires.family.1 in
    let new : Family = record { members = old.members; grids = with_item old.grids class c.prune.new.self; homes = old.homes } in
    let grid : c.index_mut.result.now ≡ grid_of old class = c.index_mut.ensures.value ∙ get_or_default old.grids.items class c.index_mut.result.now no_table (subst (λ n. class < n) (sym is.each) less) in
    let pruned : Holds (Says (grid_of old class)) c.prune.new.self = subst (λ (t : Table). Holds (Says t) c.prune.new.self) grid c.in_ok-prune.ensures.holds in
    told_changed old new class c.prune.new.self less refl refl known flips lines is.each
    (told_pruned known flips lines (members_of old class) (grid_of old class) c.prune.new.self (before class less) pruned) before)
