use Rattle.std.specs.Int.{w32}
use Rattle.std.proofs.lemmas.Int.{wrapping_sub_is}
use Rattle.rt_frame.proofs.spot.distance.Goals as goal

pub returns : goal.returns
returns c = wrapping_sub_is w32 c.args.to c.args.from c.ranges.to c.ranges.from
