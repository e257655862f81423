use Rattle.std.proofs.Common.{length}
use Rattle.rt_sat.specs.Hints.{IsFamily}
use Rattle.rt_sat.proofs.filling.filled.Given as goal

abbrev pub invariant-loop-class : goal.invariant-loop-class
invariant-loop-class l = record { family : IsFamily (length l.frame.nodes.items) l.family }

abbrev pub invariant-loop-edge : goal.invariant-loop-edge
invariant-loop-edge l = record { family : IsFamily (length l.frame.nodes.items) l.family }

abbrev pub invariant-loop-class-2 : goal.invariant-loop-class-2
invariant-loop-class-2 l = record { family : IsFamily (length l.frame.nodes.items) l.family }
