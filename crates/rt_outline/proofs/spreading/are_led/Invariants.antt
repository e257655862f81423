use Rattle.std.proofs.Common.{false, [], take}
use Rattle.rt_named.specs.Numbers.{IsLeft}
use Rattle.rt_outline.specs.Arcs.{Leads}
use Rattle.rt_outline.proofs.Following.{OfSome}
use Rattle.rt_outline.proofs.spreading.are_led.Given as goal

abbrev pub invariant-loop-source : goal.invariant-loop-source
invariant-loop-source l = IsLeft (OfSome (Leads l.arcs l.stands false) (take l.source-index l.sources)) [] l.found
