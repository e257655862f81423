use Rattle.std.proofs.Common.{◌≡◌, ◌++◌, [], take}
use Rattle.std.specs.List.{flat_map}
use Rattle.rt_named.specs.Naming.{sides_of, with_prefixes}
use Rattle.rt_named.proofs.named.Named.of.Given as goal

abbrev pub invariant-loop-line : goal.invariant-loop-line
invariant-loop-line l = l.named ≡ with_prefixes [] (flat_map sides_of (take l.line-index l.lines))

abbrev pub invariant-loop-x : goal.invariant-loop-x
invariant-loop-x l = l.named ≡ with_prefixes [] (flat_map sides_of l.lines ++ take l.x-index l.extra)
