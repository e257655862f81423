use Rattle.std.proofs.Common.{◌≡◌, ◌++◌, flat_map, take}
use Rattle.rt_table.specs.Table.{def_side, flow}
use Rattle.rt_table.specs.Inside.Told.{context_of}
use Rattle.rt_table.proofs.context.Context.flow_each.Given as goal

abbrev pub invariant-loop-def : goal.invariant-loop-def
invariant-loop-def l =
    l.rows ≡ l.initial.rows ++ flat_map (λ def. flow (context_of l.self) (def_side (context_of l.self) l.register def) l.to) (take l.def-index l.defs)
