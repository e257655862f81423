use Rattle.std.proofs.Common.{◌≡◌, ◌++◌, map, take}
use Rattle.rt_table.specs.Table.{calls_from}
use Rattle.rt_table.specs.Inside.Told.{context_of, linked_call}
use Rattle.rt_table.proofs.context.Context.calls.Given as goal

abbrev pub invariant-loop-index : goal.invariant-loop-index
invariant-loop-index l =
    l.items.items ≡ l.initial.items.items ++ calls_from (context_of l.self) l.site 0 (map (linked_call l.self.outside) (take l.index l.calls))
