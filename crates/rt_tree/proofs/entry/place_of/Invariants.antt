use Rattle.std.proofs.Common.{◌≤◌, ◌-◌, length}
use Rattle.rt_tree.specs.Trees.{place_in}
use Rattle.rt_tree.proofs.entry.place_of.Given as goal

-- the place is between the two
abbrev pub invariant-loop-low : goal.invariant-loop-low
invariant-loop-low l = record {
  low : l.low ≤ place_in l.label l.edges;
  high : place_in l.label l.edges ≤ l.high;
  within : l.high ≤ length l.edges;
}

abbrev pub decreases-loop-low : goal.decreases-loop-low
decreases-loop-low l = l.high - l.low
