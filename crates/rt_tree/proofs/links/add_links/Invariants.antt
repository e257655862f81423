use Rattle.std.proofs.Common.{◌≡◌, ◌++◌, map, take}
use Rattle.rt_tree.specs.Inside.Splits.{link_of}
use Rattle.rt_tree.proofs.links.add_links.Given as goal

abbrev pub invariant-loop-label : goal.invariant-loop-label
invariant-loop-label l = l.links.items ≡ l.fn.links.items ++ map (link_of l.from) (take l.label-index l.edges)
