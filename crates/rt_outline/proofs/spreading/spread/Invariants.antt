use Rattle.rt_outline.specs.Arcs.{Leads}
use Rattle.rt_outline.proofs.Following.{IsSpreading}
use Rattle.rt_outline.proofs.spreading.spread.Given as goal

abbrev pub invariant-loop-i : goal.invariant-loop-i
invariant-loop-i l = IsSpreading (Leads l.arcs l.stands l.pushed) l.fn.found l.found l.i
