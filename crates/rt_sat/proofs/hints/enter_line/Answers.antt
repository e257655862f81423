use Rattle.std.proofs.Common.{◌≡◌, arith, subst}
use Rattle.rt_sat.specs.declared.state.Edge.{Edge}
use Rattle.rt_sat.specs.Hints.{IsTold}
use Rattle.rt_sat.specs.Searches.{Walk}
use Rattle.rt_sat.proofs.Walking.{walked_edge}
use Rattle.rt_sat.proofs.hints.enter_line.Goals as goal

pub returns-in_ok-add-clause-told : goal.returns-in_ok-add-clause-told
returns-in_ok-add-clause-told c known flips lines told =
    let same : c.args.edge.now.count ≡ c.capped-count.result = omega (arith, c.capped-count.ensures, c.if-count-lt255.true) in
    c.in_ok-add.ensures.told known flips lines (subst (IsTold known flips lines c.args.edge.now.from c.args.edge.now.to) same told)

pub returns-in_ok-add-clause-walked : goal.returns-in_ok-add-clause-walked
returns-in_ok-add-clause-walked c edges there =
    let edge : Edge = c.args.edge.now in
    let same : edge.count ≡ c.capped-count.result = omega (arith, c.capped-count.ensures, c.if-count-lt255.true) in
    c.in_ok-add.ensures.walked edges (subst (Walk edges edge.from edge.to) same (walked_edge edges edge there))
