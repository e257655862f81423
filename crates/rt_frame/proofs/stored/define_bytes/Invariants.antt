use Rattle.std.proofs.Common.{◌≡◌, ◌++◌, map}
use Rattle.rt_frame.specs.Frames.{bytes_from}
use Rattle.rt_frame.proofs.stored.define_bytes.Given as goal

abbrev pub invariant-loop-i : goal.invariant-loop-i
invariant-loop-i l = l.graph ≡ record l.initial.graph { defs = l.initial.graph.defs ++ map (λ byte. (l.site, byte)) (bytes_from l.offset l.i) }
