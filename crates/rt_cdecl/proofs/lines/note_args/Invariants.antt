use Rattle.std.proofs.Common.{take}
use Rattle.std.specs.List.{flat_map}
use Rattle.rt_lines.specs.declared.label.Loc.{Loc}
use Rattle.rt_cdecl.specs.declared.declarations.CType.{CType}
use Rattle.rt_cdecl.specs.GoodDecls.{named_types}
use Rattle.rt_cdecl.specs.Lines.{Gains}
use Rattle.rt_cdecl.proofs.lines.note_args.Given as goal

abbrev pub invariant-loop-arg : goal.invariant-loop-arg
invariant-loop-arg l = Gains l.fn.lines l.lines (flat_map (λ (arg : Loc × CType). named_types arg.1) (take l.arg-index l.args))
