use Rattle.std.proofs.Common.{[], refl, sym, subst}
use Rattle.rt_cdecl.specs.declared.declarations.CType.TheVariants.{Unused}
use Rattle.rt_cdecl.specs.Lines.{Gains}
use Rattle.rt_cdecl.proofs.Noting.{gains_none, alone_as}
use Rattle.rt_cdecl.proofs.lines.note_alone.Goals as goal

pub returns-in-Unused : goal.returns-in-Unused
returns-in-Unused c =
    subst (λ l. Gains c.args.lines.now c.args.lines.now l)
    (sym (alone_as c.args.out0.now Unused [] c.in-Unused.is refl)) (gains_none c.args.lines.now)

pub returns-in-Pointer : goal.returns-in-Pointer
returns-in-Pointer c =
    subst (λ l. Gains c.args.lines.now c.args.lines.now l)
    (sym (alone_as c.args.out0.now _ [] c.in-Pointer.is refl)) (gains_none c.args.lines.now)
