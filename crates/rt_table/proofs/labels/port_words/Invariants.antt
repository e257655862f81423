use Rattle.std.proofs.Common.{◌≡◌, [], flat_map, fold, take}
use Rattle.std.specs.BTreeSet.{insert_key}
use Rattle.std.specs.Ordering.{nat_cmp}
use Rattle.rt_table.specs.Table.{port_word}
use Rattle.rt_table.proofs.labels.port_words.Given as goal

abbrev pub invariant-loop-label : goal.invariant-loop-label
invariant-loop-label l = l.words.keys ≡ fold (insert_key nat_cmp) [] (flat_map (λ port. port_word port.0) (take l.label-index l.ports))
