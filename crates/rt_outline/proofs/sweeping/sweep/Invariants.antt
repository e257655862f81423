use Rattle.std.proofs.Common.{true}
use Rattle.rt_outline.specs.Arcs.{Leads}
use Rattle.rt_outline.proofs.Swept.{IsSweeping}
use Rattle.rt_outline.proofs.sweeping.sweep.Given as goal

abbrev pub invariant-loop-i : goal.invariant-loop-i
invariant-loop-i l = IsSweeping (Leads l.arcs l.stands true) l.frame.steps l.origin.0 l.origin.1 l.room.found l.room.ends l.i
