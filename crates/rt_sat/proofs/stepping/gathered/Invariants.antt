use Rattle.std.proofs.Common.{◌<◌, ℕ, Bool, Contains, List, length}
use Rattle.rt_grid.specs.declared.grid.Step.{Step}
use Rattle.rt_lines.specs.declared.variable.Dtv.{Dtv}
use Rattle.rt_sat.specs.declared.family.Family.{Family}
use Rattle.rt_sat.specs.declared.state.Edge.{Edge}
use Rattle.rt_sat.specs.Hints.{AreToldSteps, IsToldRow}
use Rattle.rt_sat.specs.Inside.Links.{AreEndsFrom, AreTied}
use Rattle.rt_sat.proofs.stepping.gathered.Given as goal

abbrev pub invariant-loop-i : goal.invariant-loop-i
invariant-loop-i l = record {
  inside : (s : Step) → Contains l.found.items s → s.to < length l.known;
  told : (known : List Dtv) (flips : List Bool) (lines : List Edge) (members : List ℕ) (into : Family) → AreEndsFrom known flips members into l.source l.targets → AreTied known flips lines l.source l.targets → IsToldRow known flips lines l.source.root members l.row →
      AreToldSteps known flips lines l.source.stand into l.source.home.class l.found.items;
}
