use Rattle.std.proofs.Common.{ℕ, subst, sym}
use Rattle.std.specs.Prelude.{List}
use Rattle.rt_lines.specs.declared.line.Line.{Line}
use Rattle.rt_lattice.specs.Bounds.{IsAntisymmetric}
use Rattle.rt_lattice.specs.Lattices.{IsBelow}
use Rattle.rt_sketch.specs.Unfoldings.{IsUnfolded}
use Rattle.rt_sketch.proofs.Ends.{one_end}
use Rattle.rt_sketch.proofs.Whole.{sketched}
use Rattle.rt_sketch.proofs.sketch.of.Goals as goal

pub invariant_of-result : goal.invariant_of-result
invariant_of-result c =
    let lattice = c.args.lattice.now in
    let own = c.args.scheme.now.base in
    let lines = c.args.scheme.now.lines in
    let is_lattice = c.order.ensures.lattice in
    one_end lattice.order own lines c.in_ok-least.least
    (subst (λ (n : ℕ). IsAntisymmetric (IsBelow lattice) n) (sym is_lattice.counted) is_lattice.antisymmetric) c.size-2.ensures.tree
    (sketched lattice.order own lines c.in_ok-tree.tree c.in_ok-least.least c.size.ensures.tree c.size-2.ensures.tree c.in_ok-least.ensures.same
    (subst (λ (ls : List Line). IsUnfolded lattice.order own ls c.in_ok-tree.tree) c.items.ensures c.in_ok-tree.ensures)
    c.in_ok-least.ensures.least c.in_ok-least.ensures.numbered)

pub returns : goal.returns
returns c =
    let order = c.args.lattice.now.order in
    let own = c.args.scheme.now.base in
    let lines = c.args.scheme.now.lines in
    sketched order own lines c.in_ok-tree.tree c.in_ok-least.least c.size.ensures.tree c.size-2.ensures.tree c.in_ok-least.ensures.same
    (subst (λ (ls : List Line). IsUnfolded order own ls c.in_ok-tree.tree) c.items.ensures c.in_ok-tree.ensures)
    c.in_ok-least.ensures.least c.in_ok-least.ensures.numbered
