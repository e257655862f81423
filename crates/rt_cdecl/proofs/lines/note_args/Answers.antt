use Rattle.std.proofs.Common.{subst, sym, rules}
use Rattle.std.proofs.lemmas.List.Folds.{flat_map-map}
use Rattle.rt_cdecl.specs.Lines.{Gains}
use Rattle.rt_lines.specs.declared.label.Loc.{Loc}
use Rattle.rt_cdecl.specs.declared.declarations.CType.{CType}
use Rattle.rt_cdecl.specs.GoodDecls.{named_types}
use Rattle.rt_cdecl.proofs.Noting.{gains_all, gains_more, gains_none}
use Rattle.rt_cdecl.proofs.lines.note_args.Goals as goal

pub loop-arg-init : goal.loop-arg-init
loop-arg-init c = gains_none c.args.lines.now

pub loop-arg-preserved : goal.loop-arg-preserved
loop-arg-preserved c =
    gains_more (λ (arg : Loc × CType). named_types arg.1) c.args.args.now c.loop-arg.arg-index c.arg-item.result c.args.lines.now c.loop-arg.lines c.note.new.lines
    (search rules) c.arg-item.is c.loop-arg.invariant c.in_ok-note.ensures

pub returns : goal.returns
returns c =
    subst (Gains c.args.lines.now c.loop-arg.lines) (sym (flat_map-map named_types (λ (arg : Loc × CType). arg.1) c.args.args.now))
    (gains_all (λ (arg : Loc × CType). named_types arg.1) c.args.args.now c.loop-arg.arg-index c.args.lines.now c.loop-arg.lines (search rules) c.loop-arg.invariant)
