use Rattle.std.proofs.Common.{◌∷◌, [], refl, sym, subst, OnOk}
use Rattle.rt_cdecl.specs.declared.declarations.CType.TheVariants.{Unused}
use Rattle.rt_cdecl.specs.Lines.{Gains}
use Rattle.rt_cdecl.proofs.Noting.{gains_none, named_as}
use Rattle.rt_cdecl.proofs.lines.note.Goals as goal

pub returns-in-Unused : goal.returns-in-Unused
returns-in-Unused c =
    subst (λ l. OnOk c.note_named.result (Gains c.args.lines.now c.note_named.new.lines l))
    (sym (named_as c.args.kind.now Unused (c.args.kind.now ∷ []) c.in-Unused.is (λ i. sym c.in-Unused.is i ∷ []))) c.note_named.ensures

pub returns-in-Pointer : goal.returns-in-Pointer
returns-in-Pointer c =
    subst (λ l. Gains c.args.lines.now c.args.lines.now l)
    (sym (named_as c.args.kind.now _ [] c.in-Pointer.is refl)) (gains_none c.args.lines.now)
