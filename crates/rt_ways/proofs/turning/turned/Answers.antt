use Rattle.rt_ways.proofs.Backwards.{turn_room, turned_all, turned_first, turned_next}
use Rattle.rt_ways.proofs.turning.turned.Goals as goal

pub loop-number-init : goal.loop-number-init
loop-number-init c = turned_first c.args.rows.now c.in_ok-back.back.items

pub turn-requires : goal.turn-requires
turn-requires c =
    turn_room c.args.rows.now c.loop-number.number c.row.result.now c.in_ok-back.back.items c.loop-number.back.items c.row.ensures c.in_ok-back.ensures.length c.requires.within c.loop-number.invariant

pub loop-number-preserved : goal.loop-number-preserved
loop-number-preserved c = turned_next c.args.rows.now c.loop-number.number c.row.result.now c.in_ok-back.back.items c.loop-number.back.items c.turn.new.back.items c.row.ensures c.loop-number.invariant c.in_ok-turn.ensures

pub returns : goal.returns
returns c = turned_all c.args.rows.now c.in_ok-back.back.items c.loop-number.back.items c.loop-number.number c.loop-number-test.false c.in_ok-back.ensures.length c.in_ok-back.ensures.empty c.loop-number.invariant
