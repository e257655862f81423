use Rattle.std.proofs.Common.{◌<◌, sym, subst, get_or}
use Rattle.rt_ways.proofs.Backwards.{turn_first, turn_next, turn_whole}
use Rattle.rt_ways.proofs.turning.turn.Goals as goal
use Rattle.rt_base.proofs.Lists.{Contains-at}

pub loop-other-init : goal.loop-other-init
loop-other-init c = turn_first c.args.row.now c.args.number c.args.back.now.items

pub add-requires : goal.add-requires
add-requires c = subst (λ n. get_or c.args.row.now c.loop-other.other-index 0 < n) (sym c.loop-other.invariant.each) (c.requires (get_or c.args.row.now c.loop-other.other-index 0) (Contains-at c.args.row.now c.loop-other.other-index c.loop-other-test.true))

pub loop-other-preserved : goal.loop-other-preserved
loop-other-preserved c = turn_next c.args.row.now c.loop-other.other-index c.args.number c.args.back.now.items c.loop-other.back.items c.add.new.arcs.items c.loop-other-test.true c.loop-other.invariant c.in_ok-add.ensures

pub returns : goal.returns
returns c = turn_whole c.args.row.now c.loop-other.other-index c.args.number c.args.back.now.items c.loop-other.back.items c.loop-other-test.false c.loop-other.invariant
