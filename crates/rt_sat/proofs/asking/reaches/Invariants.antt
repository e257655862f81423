use Rattle.std.proofs.Common.{◌≡◌, ◌-◌, length}
use Rattle.rt_sat.specs.Pushes.{pushed_of, AreDone, AreIndexed, IsBuilt}
use Rattle.rt_sat.specs.Tables.{HasNought}
use Rattle.rt_sat.proofs.asking.reaches.Given as goal

abbrev pub invariant-loop-done : goal.invariant-loop-done
invariant-loop-done l = record {
  lines : l.layers.lines ≡ length l.fn.begun.first.items;
  indexed : AreIndexed l.layers;
  built : IsBuilt l.fn.begun.frame.named l.fn.begun.frame.flips.items l.fn.begun.first.items l.layers.edges.items;
  unmet : HasNought l.layers.edges.items l.fn.sources l.fn.targets → ⊥;
  done : AreDone l.fn.begun.frame.named l.fn.begun.frame.flips.items l.fn.begun.frame.matters.items l.layers.edges.items (pushed_of l.layers) l.done.items;
}

abbrev pub decreases-loop-done : goal.decreases-loop-done
decreases-loop-done l = 18446744073709551616 - length l.layers.edges.items
