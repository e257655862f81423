use Rattle.std.proofs.Common.{List, subst, rules}
use Rattle.std.specs.List.{flat_map}
use Rattle.rt_cdecl.specs.declared.declarations.CField.{CField}
use Rattle.rt_cdecl.specs.Lines.{Gains}
use Rattle.rt_cdecl.specs.GoodDecls.{named_types, struct_types}
use Rattle.rt_cdecl.proofs.Noting.{gains_all, gains_more, gains_none}
use Rattle.rt_cdecl.proofs.lines.note_structs.Goals as goal

pub loop-item-init : goal.loop-item-init
loop-item-init c = gains_none c.args.lines.now

pub loop-item-preserved : goal.loop-item-preserved
loop-item-preserved c =
    gains_more struct_types c.args.structs.now c.loop-item.item-index c.item-item.result c.args.lines.now c.loop-item.lines c.note_fields.new.lines
    (search rules) c.item-item.is c.loop-item.invariant
    (subst (λ (l : List CField). Gains c.loop-item.lines c.note_fields.new.lines (flat_map (λ (f : CField). named_types f.kind) l)) c.items.ensures c.in_ok-note_fields.ensures)

pub returns : goal.returns
returns c = gains_all struct_types c.args.structs.now c.loop-item.item-index c.args.lines.now c.loop-item.lines (search rules) c.loop-item.invariant
