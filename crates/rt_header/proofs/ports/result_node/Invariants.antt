use Rattle.std.proofs.Common.{◌≡◌, None, take}
use Rattle.std.specs.Map.{lookup}
use Rattle.rt_lines.specs.declared.label.Label.TheVariants.{Out}
use Rattle.rt_lines.specs.Equality.{label_eq}
use Rattle.rt_header.proofs.ports.result_node.Given as goal

abbrev pub invariant-loop-label : goal.invariant-loop-label
invariant-loop-label l = lookup (label_eq (Out l.number)) (take l.label-index l.edges) ≡ None
