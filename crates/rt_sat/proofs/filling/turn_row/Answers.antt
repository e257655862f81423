use Rattle.std.proofs.Common.{◌≡◌, ◌<◌, Contains, length, subst, sym}
use Rattle.std.proofs.lemmas.List.{get_or_read}
use Rattle.rt_grid.specs.Tables.{size_of}
use Rattle.rt_sat.specs.Hints.{grid_of, no_table}
use Rattle.rt_sat.proofs.filling.turn_row.Goals as goal

pub column-requires-clause-outer : goal.column-requires-clause-outer
column-requires-clause-outer c t h =
    let grids = c.args.family.now.grids.items in
    let class = c.args.home.class in
    let less : class < length grids = subst (λ n. class < n) (sym c.requires.family.1.each) c.requires.home.class in
    let same : c.index.result.now ≡ grid_of c.args.family.now class = get_or_read grids class c.index.result.now less c.index.ensures no_table in
    subst (λ g. (t.forth < size_of g) × (t.back < size_of g)) (sym same) (c.requires.outer t h)

pub lower-requires-clause-ways : goal.lower-requires-clause-ways
lower-requires-clause-ways c s h =
    let grids = c.args.family.now.grids.items in
    let class = c.args.home.class in
    let less : class < length grids = subst (λ n. class < n) (sym c.requires.family.1.each) c.requires.home.class in
    let same : c.index.result.now ≡ grid_of c.args.family.now class = get_or_read grids class c.index.result.now less c.index.ensures no_table in
    subst (λ g. s.to < size_of g) same (c.in_ok-ways.ensures s (subst (λ xs. Contains xs s) c.deref.ensures.value h))
