use Rattle.std.specs.Int.{w32}
use Rattle.std.proofs.lemmas.Int.{wrapping_add_is}
use Rattle.rt_track.proofs.value.wrapping_sum.Goals as goal

pub returns : goal.returns
returns c = wrapping_add_is w32 c.args.offset c.args.more c.ranges.offset c.ranges.more
