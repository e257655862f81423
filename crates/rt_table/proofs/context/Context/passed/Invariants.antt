use Rattle.std.proofs.Common.{◌≡◌, ◌++◌, take}
use Rattle.rt_table.specs.Inside.Parts.{passed}
use Rattle.rt_table.specs.Inside.Told.{context_of}
use Rattle.rt_table.proofs.context.Context.passed.Given as goal

abbrev pub invariant-loop-label : goal.invariant-loop-label
invariant-loop-label l = l.rows ≡ l.initial.rows ++ passed (context_of l.self) l.site l.to (take l.label-index l.labels)
