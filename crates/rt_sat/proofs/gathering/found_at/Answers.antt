use Rattle.std.proofs.Common.{◌≡◌, ◌<◌, length, subst, sym, ap, ◌∙◌, arith}
use Rattle.std.proofs.lemmas.List.{get_or_read}
use Rattle.rt_grid.specs.Tables.{size_of}
use Rattle.rt_sat.specs.Hints.{grid_of, members_of, no_table, IsToldRow}
use Rattle.rt_sat.proofs.ToldPushes.{told_read}
use Rattle.rt_sat.proofs.gathering.found_at.Goals as goal

pub row-row-requires : goal.row-row-requires
row-row-requires c =
    let family = c.requires.family.1 in
    let grids = c.args.family.now.grids.items in
    let less : c.args.class < length grids = subst (λ n. c.args.class < n) (sym family.each) c.requires.class in
    let same : c.index.result.now ≡ grid_of c.args.family.now c.args.class = get_or_read grids c.args.class c.index.result.now less c.index.ensures no_table in
    subst (λ n. c.args.source.now.place < n) (sym (ap size_of same ∙ family.sizes c.args.class c.requires.class)) c.requires.ends.2.0.inside

pub index-requires-2 : goal.index-requires-2
index-requires-2 c = omega (arith, c.requires.into.1.each, c.requires.ends.2.0.home.class)

pub returns-clause-inside : goal.returns-clause-inside
returns-clause-inside c =
    let grids = c.args.into.now.grids.items in
    let class = c.args.source.now.home.class in
    let less : class < length grids = subst (λ n. class < n) (sym c.requires.into.1.each) c.requires.ends.2.0.home.class in
    let same : c.index-2.result.now ≡ grid_of c.args.into.now class = get_or_read grids class c.index-2.result.now less c.index-2.ensures no_table in
    λ s h. subst (λ n. s.to < n) (c.row-known.ensures.long ∙ ap size_of same) (c.in_ok-found.ensures.inside s h)

pub returns-clause-told : goal.returns-clause-told
returns-clause-told c = λ known flips lines are tied before.
    let members = members_of c.args.family.now c.args.class in
    let source = c.args.source.now in
    c.in_ok-found.ensures.told known flips lines members c.args.into.now are tied
    (subst (λ s. IsToldRow known flips lines s members c.row-row.result.now) (sym are.0.root)
    (told_read known flips lines c.args.family.now c.args.class source.place c.row-row.result.now c.index.result.now c.requires.class c.requires.family.1.each c.index.ensures c.row-row.ensures.row before))
