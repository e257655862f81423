use Rattle.std.proofs.Common.{arith, to_z, of_z, w32}
use Rattle.std.proofs.lemmas.Int.{ints}
use Rattle.rt_frame.proofs.Storing.{bytes_more}
use Rattle.rt_frame.proofs.stored.define_bytes.Goals as goal

pub loop-i-preserved : goal.loop-i-preserved
loop-i-preserved c =
    bytes_more c.args.site c.loop-i.graph c.args.graph.now c.add_def.new.self (to_z w32 (of_z w32 c.args.offset)) _ c.loop-i.i c.loop-i.invariant c.in_ok-add_def.ensures.ok (omega (arith, ints, c.from.ensures, c.from-in-loop-i.ensures))
