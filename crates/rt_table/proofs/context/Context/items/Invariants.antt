use Rattle.std.proofs.Common.{◌≡◌, take}
use Rattle.rt_table.specs.Table.{items_from}
use Rattle.rt_table.specs.Inside.Told.{context_of}
use Rattle.rt_table.proofs.context.Context.items.Given as goal

abbrev pub invariant-loop-site : goal.invariant-loop-site
invariant-loop-site l = l.items.items ≡ items_from (context_of l.self) 0 (take l.site l.actions)
