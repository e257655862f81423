use Rattle.std.proofs.Common.{◌≡◌, ◌<◌, ◌∙◌, [], Contains, length, ap, subst, arith}
use Rattle.std.proofs.lemmas.List.{get_or_read}
use Rattle.rt_grid.specs.Tables.{size_of, steps_of}
use Rattle.rt_grid.proofs.grid.Grid.steps.Goals as goal

pub returns-clause-inside : goal.returns-clause-inside
returns-clause-inside c =
    let steps = c.self.inside.steps.items in
    let size : length c.self.inside.rows.items ≡ size_of c.args.self.now = ap size_of c.self.view_is in
    let long : length c.self.inside.steps.items ≡ length c.self.inside.rows.items = c.self.invariant.as_long in
    let less : c.args.place < length c.self.inside.steps.items = omega (arith, c.requires) in
    let same : c.items.result.now ≡ steps_of c.self.inside.steps.items c.args.place = c.items.ensures ∙ get_or_read steps c.args.place c.index.result.now less c.index.ensures [] in
    λ s h. subst (λ n. s.to < n) size (c.self.invariant.inside c.args.place s (subst (λ xs. Contains xs s) same h))
