use Rattle.std.proofs.Common.{subst, sym}
use Rattle.rt_lines.specs.declared.variable.Base.TheVariants.{Proc}
use Rattle.rt_lines.specs.OrderFacts.{IsOrder}
use Rattle.rt_sketch.specs.States.{Starts}
use Rattle.rt_sketch.specs.Unfoldings.{IsUnfolded}
use Rattle.rt_sketch.proofs.Whole.{alone, whole}
use Rattle.rt_sketch.proofs.sketch.started.Goals as goal

pub returns-in_ok-tree-in-Some : goal.returns-in_ok-tree-in-Some
returns-in_ok-tree-in-Some c =
    whole c.args.lattice.now.order c.args.lines.now c.args.machine.now c.in-Some.first c.in_ok-tree-in-Some.tree c.in_ok-tree-in-Some.ensures c.requires.machine c.args.own
    (subst (Starts c.args.lines.now c.args.machine.now (Proc c.args.own)) c.in-Some.is (c.in_ok-first.ensures c.args.lines.now c.requires.machine))

pub returns-in_ok-tree-in-None : goal.returns-in_ok-tree-in-None
returns-in_ok-tree-in-None c =
    let lines = c.args.lines.now in
    let machine = c.args.machine.now in
    let order = subst IsOrder c.order.ensures.order c.count-count.ensures.order in
    subst (IsUnfolded c.args.lattice.now.order c.args.own lines) (sym c.in_ok-tree-in-None.ensures)
    (alone lines machine c.requires.machine c.args.lattice.now c.order.ensures.lattice order c.requires.constants c.args.own
    (subst (Starts lines machine (Proc c.args.own)) c.in-None.is (c.in_ok-first.ensures lines c.requires.machine))
    c.bottom.result c.top.result c.bottom.ensures c.top.ensures)
