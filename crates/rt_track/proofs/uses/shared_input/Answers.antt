use Rattle.rt_track.proofs.Using.{found_shared}
use Rattle.rt_track.proofs.uses.shared_input.Goals as goal

pub returns : goal.returns
returns c =
    found_shared c.args.reach.now c.args.ops.now c.args.reg c.args.number c.args.joins.now.items c.gathered.new.joins.items c.args.known.now.items c.in_ok-input.input c.requires.each c.requires.within c.requires.are_known c.in_ok-input.ensures.keeps
    c.shared.result.now c.shared.ensures c.in_ok-input.ensures.input
