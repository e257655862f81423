use Rattle.rt_outline.specs.Inside.Beside.{AreListed}
use Rattle.rt_outline.proofs.beside.Beside.of.Given as goal

abbrev pub invariant-loop-node : goal.invariant-loop-node
invariant-loop-node l = AreListed l.frame.origins.items l.sorts.classes.items l.node l.lists.entries
