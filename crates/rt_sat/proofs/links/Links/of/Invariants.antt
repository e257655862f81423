use Rattle.std.proofs.Common.{Bool, Contains, List}
use Rattle.rt_lines.specs.declared.variable.Dtv.{Dtv}
use Rattle.rt_sat.specs.declared.state.Edge.{Edge}
use Rattle.rt_sat.specs.Inside.Links.{AreLinked}
use Rattle.rt_sat.proofs.links.Links.of.Given as goal

abbrev pub invariant-loop-edge : goal.invariant-loop-edge
invariant-loop-edge l = (known : List Dtv) (flips : List Bool) (lines : List Edge) → ((e : Edge) → Contains l.edges e → Contains lines e) → AreLinked known flips lines l.links
