use Rattle.std.proofs.Common.{◌≡◌, [], drop}
use Rattle.std.specs.List.{flat_map}
use Rattle.rt_erase.specs.Rows.{row_of, sorted_with}
use Rattle.rt_erase.proofs.Entering.{AreNext}
use Rattle.rt_erase.proofs.sorting.sort.Given as goal

abbrev pub invariant-loop-label : goal.invariant-loop-label
invariant-loop-label l = record {
  next : AreNext l.sorted (drop l.label-index l.edges);
  sorted : sorted_with l.sorted (flat_map row_of (drop l.label-index l.edges)) ≡ sorted_with [] (flat_map row_of l.edges);
}
