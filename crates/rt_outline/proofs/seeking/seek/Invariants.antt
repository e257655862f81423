use Rattle.std.proofs.Common.{true, []}
use Rattle.rt_outline.specs.Arcs.{Leads}
use Rattle.rt_outline.specs.Inside.Sweeps.{AreReached}
use Rattle.rt_outline.proofs.seeking.seek.Given as goal

abbrev pub invariant-loop-i : goal.invariant-loop-i
invariant-loop-i l = AreReached (Leads l.arcs [] true) l.fn.known.numbers l.known.numbers
