use Rattle.std.proofs.Common.{◌≡◌, ◌<◌, length, refl, subst, sym}
use Rattle.std.proofs.lemmas.List.{get_or_read}
use Rattle.std.specs.Vec.{with_item}
use Rattle.rt_grid.specs.Tables.{size_of}
use Rattle.rt_sat.specs.declared.family.Family.{Family}
use Rattle.rt_sat.specs.Hints.{grid_of, no_table}
use Rattle.rt_sat.proofs.ToldPushes.{told_put}
use Rattle.rt_sat.proofs.gathering.put.Goals as goal

pub enter-requires-clause-inside : goal.enter-requires-clause-inside
enter-requires-clause-inside c = λ s h.
    let grids = c.args.into.now.grids.items in
    let class = c.args.home.class in
    let less : class < length grids = subst (λ n. class < n) (sym c.requires.into.1.each) c.requires.class in
    let same : c.index_mut.result.now ≡ grid_of c.args.into.now class = get_or_read grids class c.index_mut.result.now less c.index_mut.ensures.value no_table in
    subst (λ g. s.to < size_of g) (sym same) (c.requires.found s h)

pub returns-clause-told : goal.returns-clause-told
returns-clause-told c = λ known flips lines child stands steps before.
    let into = c.args.into.now in
    let home = c.args.home in
    let new : Family = record { members = into.members; grids = with_item into.grids home.class c.enter.new.grid; homes = into.homes } in
    told_put known flips lines into new home child c.index_mut.result.now c.enter.new.grid c.args.found.now c.args.found.now
    refl refl c.requires.into.1.each stands c.index_mut.ensures.value refl c.in_ok-added.ensures.holds steps before
