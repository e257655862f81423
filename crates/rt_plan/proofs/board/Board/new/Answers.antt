use Rattle.std.proofs.Common.{rules, arith}
use Rattle.rt_plan.proofs.Changing.{kept_new, new_is}
use Rattle.rt_plan.proofs.board.Board.new.Goals as goal

pub invariant_of-result : goal.invariant_of-result
invariant_of-result c =
    kept_new c.args.workers c.in-Ok.count c.args.callees.now c.in_ok-calls.calls c.in_ok-states.states.items c.in_ok-waits.waits.left.items c.in_ok-opened.opened c.in_ok-waits.waits.ready c.in_ok-held.held.items
    c.in_ok-calls.ensures (c.in_ok-states.ensures.items_if_clones_equal (λ y e. e)) (omega (arith, c.in-Ok.ensures)) (c.in_ok-held.ensures.items_if_clones_equal (search rules)) c.in_ok-opened.ensures (omega (arith, c.in-Ok.ensures)) c.in_ok-waits.ensures.each c.in_ok-waits.ensures.left c.in_ok-waits.ensures.ready

pub returns : goal.returns
returns c = new_is c.args.workers c.in-Ok.count c.args.callees.now c.in_ok-calls.calls c.in_ok-states.states.items c.in_ok-held.held.items c.in_ok-calls.ensures (c.in_ok-states.ensures.items_if_clones_equal (λ y e. e)) (omega (arith, c.in-Ok.ensures)) (c.in_ok-held.ensures.items_if_clones_equal (search rules))
