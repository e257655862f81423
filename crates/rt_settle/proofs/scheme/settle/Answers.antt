use Rattle.std.proofs.lemmas.Result.{IfOk-weaker}
use Rattle.rt_settle.specs.Chosen.{IsSettled}
use Rattle.rt_settle.proofs.Grouping.{settled_tells}
use Rattle.rt_settle.proofs.Settled.{interfaces_stay, schemes_stay, settled_by}
use Rattle.rt_settle.proofs.scheme.settle.Goals as goal

pub returns-clause-settled : goal.returns-clause-settled
returns-clause-settled c =
    settled_by c.args.order.now c.args.lines c.in_ok-lines.lines c.in_ok-lines-2.lines c.sort_lines.result c.in_ok-lines.ensures
    c.in_ok-lines-2.ensures c.sort_lines.ensures.in_order

pub returns-clause-tells : goal.returns-clause-tells
returns-clause-tells c =
    IfOk-weaker c.sort_lines.result (λ r. IsSettled c.args.order.now c.args.lines r) _
    (λ r is own. settled_tells c.args.order.now own c.args.lines r c.requires.scheme is)
    (settled_by c.args.order.now c.args.lines c.in_ok-lines.lines c.in_ok-lines-2.lines c.sort_lines.result c.in_ok-lines.ensures
    c.in_ok-lines-2.ensures c.sort_lines.ensures.in_order)

pub returns-clause-schemes : goal.returns-clause-schemes
returns-clause-schemes c =
    IfOk-weaker c.sort_lines.result (λ r. IsSettled c.args.order.now c.args.lines r) _
    (λ r is own all. schemes_stay c.args.order.now c.args.lines r is own all)
    (settled_by c.args.order.now c.args.lines c.in_ok-lines.lines c.in_ok-lines-2.lines c.sort_lines.result c.in_ok-lines.ensures
    c.in_ok-lines-2.ensures c.sort_lines.ensures.in_order)

pub returns-clause-interfaces : goal.returns-clause-interfaces
returns-clause-interfaces c =
    IfOk-weaker c.sort_lines.result (λ r. IsSettled c.args.order.now c.args.lines r) _
    (λ r is fit. interfaces_stay c.args.order.now c.args.lines r is fit)
    (settled_by c.args.order.now c.args.lines c.in_ok-lines.lines c.in_ok-lines-2.lines c.sort_lines.result c.in_ok-lines.ensures
    c.in_ok-lines-2.ensures c.sort_lines.ensures.in_order)
