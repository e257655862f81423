use Rattle.std.proofs.Common.{rules}
use Rattle.rt_cdecl.specs.declared.declarations.CField.{CField}
use Rattle.rt_cdecl.specs.GoodDecls.{named_types}
use Rattle.rt_cdecl.proofs.Noting.{gains_all, gains_more, gains_none}
use Rattle.rt_cdecl.proofs.lines.note_fields.Goals as goal

pub loop-field-init : goal.loop-field-init
loop-field-init c = gains_none c.args.lines.now

pub loop-field-preserved : goal.loop-field-preserved
loop-field-preserved c =
    gains_more (λ (f : CField). named_types f.kind) c.args.fields.now c.loop-field.field-index c.field-item.result c.args.lines.now c.loop-field.lines c.note.new.lines
    (search rules) c.field-item.is c.loop-field.invariant c.in_ok-note.ensures

pub returns : goal.returns
returns c = gains_all (λ (f : CField). named_types f.kind) c.args.fields.now c.loop-field.field-index c.args.lines.now c.loop-field.lines (search rules) c.loop-field.invariant
