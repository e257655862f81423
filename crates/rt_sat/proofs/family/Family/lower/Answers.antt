use Rattle.std.proofs.Common.{◌≡◌, ◌<◌, length, subst, sym}
use Rattle.std.proofs.lemmas.List.{get_or_read}
use Rattle.rt_grid.specs.Tables.{size_of}
use Rattle.rt_sat.specs.Hints.{grid_of, no_table}
use Rattle.rt_sat.proofs.family.Family.lower.Goals as goal

pub lower-requires-clause-ways : goal.lower-requires-clause-ways
lower-requires-clause-ways c = λ s h.
    let grids = c.args.self.now.grids.items in
    let class = c.args.home.class in
    let less : class < length grids = subst (λ n. class < n) (sym c.requires.family.1.each) c.requires.class in
    let same : c.index_mut.result.now ≡ grid_of c.args.self.now class = get_or_read grids class c.index_mut.result.now less c.index_mut.ensures.value no_table in
    subst (λ g. s.to < size_of g) (sym same) (c.requires.ways s h)
