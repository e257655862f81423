use Rattle.std.proofs.Common.{take}
use Rattle.std.specs.List.{flat_map}
use Rattle.rt_cdecl.specs.GoodDecls.{named_types, arg_types}
use Rattle.rt_cdecl.specs.Inside.Endings.{Drops}
use Rattle.rt_cdecl.proofs.kinds.Kinds.remove_args.Given as goal

abbrev pub invariant-loop-kind : goal.invariant-loop-kind
invariant-loop-kind l = Drops l.fn.self (flat_map named_types (arg_types (take l.kind-index l.args))) l.self
