use Rattle.std.proofs.Common.{◌≡◌, List, Bool, true, false, length, set, replicate, sym, ap, subst, ◌∙◌}
use Rattle.rt_lines.specs.declared.line.Line.{Line}
use Rattle.rt_shape.specs.Shapes.{IsShapeOf}
use Rattle.rt_reduce.proofs.Apart.{not_one, stays_apart}
use Rattle.rt_reduce.proofs.Cleared.{set_again}
use Rattle.rt_reduce.proofs.parting.is_parted.Goals as goal

pub returns-clause-same : goal.returns-clause-same
returns-clause-same c =
    set_again (length c.args.lines.now) c.args.i (set c.args.others.now.items c.args.i false)
    (ap (λ (fs : List Bool). set fs c.args.i false) c.requires.flags) c.requires.within ∙ sym c.requires.flags

pub returns-clause-staying : goal.returns-clause-staying
returns-clause-staying c = λ yes order.
    let lines = c.args.lines.now in
    let joins = c.in_ok-joins.joins.items in
    let others : c.deref.result.now ≡ set (replicate (length lines) true) c.args.i false =
    c.deref.ensures.value ∙ ap (λ (fs : List Bool). set fs c.args.i false) c.requires.flags in
    let shape : IsShapeOf joins c.in_ok-shape.shape =
    subst (λ (js : List Line). IsShapeOf js c.in_ok-shape.shape) c.deref-2.ensures.value c.in_ok-shape.ensures in
    stays_apart order lines c.args.i c.deref.result.now joins c.index-lines-i.result c.in-Sub.x c.in-Sub.y others c.in_ok-joins.ensures
    c.index-lines-i.is c.in-Sub.is
    (not_one order joins c.are_one.result c.in_ok-left.left c.in_ok-right.right c.in-Sub.x c.in-Sub.y yes c.in_ok-left.ensures
    c.in_ok-right.ensures (c.are_one.ensures joins order shape))
