use Rattle.std.proofs.Common.{◌<◌, subst}
use Rattle.rt_sat.specs.Hints.{IsStepFrom, IsStepOf}
use Rattle.rt_sat.proofs.Emitting.{more_more, more_none}
use Rattle.rt_sat.proofs.hints.emit.Goals as goal

pub loop-index-init : goal.loop-index-init
loop-index-init c = more_none (IsStepOf c.args.members.now c.args.grid.now) c.args.edges.now.items

pub loop-index-preserved : goal.loop-index-preserved
loop-index-preserved c =
    let Of = IsStepOf c.args.members.now c.args.grid.now in
    more_more Of (IsStepFrom c.args.members.now c.args.grid.now c.loop-index.index) c.args.edges.now.items c.loop-index.edges.items c.emit_from.new.edges.items
    (λ e s. record { place = c.loop-index.index; inside = subst (λ n. c.loop-index.index < n) c.len-index-end.ensures c.loop-index-test.true; step = s }) c.loop-index.invariant c.in_ok-emit_from.ensures

pub returns : goal.returns
returns c = c.loop-index.invariant
