use Rattle.std.proofs.Common.{◌≡◌, ◌+◌, Some, take}
use Rattle.std.specs.Prelude.{slice_get}
use Rattle.std.specs.List.{fold}
use Rattle.indexmap.specs.IndexSet.{insert_key}
use Rattle.rt_lines.specs.Equality.{variable_eq}
use Rattle.rt_named.specs.Naming.{prefixes}
use Rattle.rt_named.proofs.Prefixes.{prefix_of}
use Rattle.rt_named.proofs.named.Named.enter.Given as goal

abbrev pub invariant-loop-label : goal.invariant-loop-label
invariant-loop-label l = record {
  items : l.label-items ≡ l.x.word;
  entered : l.self ≡ fold (insert_key variable_eq) l.fn.self (take (l.label-index + 1) (prefixes l.x));
  number : slice_get l.self l.number ≡ Some (prefix_of l.x l.label-index);
}
