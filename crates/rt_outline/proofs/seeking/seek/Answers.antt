use Rattle.std.proofs.Common.{true, [], sym}
use Rattle.rt_components.specs.Groups.Reaches.{there}
use Rattle.rt_outline.specs.Arcs.{Leads}
use Rattle.rt_outline.proofs.Sought.{reached_next}
use Rattle.rt_outline.proofs.seeking.seek.Goals as goal

pub loop-i-init : goal.loop-i-init
loop-i-init c = λ w k. (w, k, there)

pub loop-i-preserved : goal.loop-i-preserved
loop-i-preserved c =
    reached_next (Leads c.args.arcs.now [] true) c.args.known.now.numbers c.loop-i.known.numbers c.pursue.new.known.numbers c.loop-i.i c.in-Some.next (sym c.in-Some.ensures) c.in_ok-pursue.ensures c.loop-i.invariant
