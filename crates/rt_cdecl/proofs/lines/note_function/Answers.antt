use Rattle.std.proofs.Common.{List, subst}
use Rattle.std.specs.List.{flat_map}
use Rattle.rt_lines.specs.declared.label.Loc.{Loc}
use Rattle.rt_cdecl.specs.declared.declarations.CType.{CType}
use Rattle.rt_cdecl.specs.GoodDecls.{arg_types, named_types}
use Rattle.rt_cdecl.specs.Lines.{Gains}
use Rattle.rt_cdecl.proofs.Noting.{gains_both}
use Rattle.rt_cdecl.proofs.lines.note_function.Goals as goal

pub returns : goal.returns
returns c =
    gains_both _ _ _ _ _ c.in_ok-note_results.ensures
    (subst (λ (l : List (Loc × CType)). Gains c.note_results.new.lines c.note_args.new.lines (flat_map named_types (arg_types l))) c.items.ensures c.in_ok-note_args.ensures)
