use Rattle.std.proofs.Common.{◌≡◌, ◌++◌, flat_map, take}
use Rattle.rt_table.specs.Table.{word_flow}
use Rattle.rt_table.specs.Inside.Told.{context_of}
use Rattle.rt_table.proofs.context.Context.word_flows.Given as goal

abbrev pub invariant-loop-def : goal.invariant-loop-def
invariant-loop-def l = l.rows ≡ l.initial.rows ++ flat_map (word_flow (context_of l.self) l.offset l.to) (take l.def-index l.def-items)
