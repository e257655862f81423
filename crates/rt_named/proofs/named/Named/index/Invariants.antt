use Rattle.std.proofs.Common.{◌≡◌, Some}
use Rattle.std.specs.Prelude.{slice_get}
use Rattle.rt_named.proofs.Prefixes.{prefix_of}
use Rattle.rt_named.proofs.named.Named.index.Given as goal

abbrev pub invariant-loop-label : goal.invariant-loop-label
invariant-loop-label l = record {
  items : l.label-items ≡ l.x.word;
  number : slice_get l.self l.number ≡ Some (prefix_of l.x l.label-index);
}
