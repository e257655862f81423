use Rattle.std.proofs.Common.{◌≡◌, ◌-◌, length}
use Rattle.rt_sat.specs.Pushes.{pushed_of, AreDone, AreIndexed, IsBuilt}
use Rattle.rt_sat.proofs.closing.closed.Given as goal

abbrev pub invariant-loop-done : goal.invariant-loop-done
invariant-loop-done l = record {
  lines : l.layers.lines ≡ length l.fn.lines.items;
  indexed : AreIndexed l.layers;
  built : IsBuilt l.frame.named l.frame.flips.items l.fn.lines.items l.layers.edges.items;
  done : AreDone l.frame.named l.frame.flips.items l.frame.matters.items l.layers.edges.items (pushed_of l.layers) l.done.items;
}

abbrev pub decreases-loop-done : goal.decreases-loop-done
decreases-loop-done l = 18446744073709551616 - length l.layers.edges.items
