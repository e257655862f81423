use Rattle.std.proofs.Common.{◌≡◌, ◌++◌, take}
use Rattle.rt_sketch.specs.Texts.{tree_text}
use Rattle.rt_sketch.proofs.text.print.Given as goal

abbrev pub invariant-loop-number : goal.invariant-loop-number
invariant-loop-number l = l.out.items ≡ l.fn.out.items ++ tree_text l.names l.order (take l.number l.tree)
