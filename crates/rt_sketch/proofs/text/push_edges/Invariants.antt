use Rattle.std.proofs.Common.{◌≡◌, ◌++◌, flat_map, take}
use Rattle.rt_sketch.specs.Texts.{edge_text}
use Rattle.rt_sketch.proofs.text.push_edges.Given as goal

abbrev pub invariant-loop-label : goal.invariant-loop-label
invariant-loop-label l = l.out.items ≡ l.fn.out.items ++ flat_map (edge_text l.number) (take l.label-index l.edges)
