use Rattle.std.proofs.Common.{◌↔◌, IsTrue, false, Contains, List, sym, subst}
use Rattle.rt_cdecl.specs.declared.declarations.CType.{CType}
use Rattle.rt_cdecl.specs.declared.declarations.CType.TheVariants.{Unused, Pointer}
use Rattle.rt_cdecl.proofs.KindSets.{no_pointer, unused_has}
use Rattle.rt_cdecl.proofs.kinds.Kinds.has.Goals as goal

pub returns-in-Unused : goal.returns-in-Unused
returns-in-Unused c =
    subst (λ (t : CType). IsTrue c.self.inside.unused ↔ Contains c.args.self.now t) (sym c.in-Unused.is)
    (subst (λ (ks : List CType). IsTrue c.self.inside.unused ↔ Contains ks Unused) c.self.view_is (unused_has _ _ _ _))

pub returns-in-Pointer : goal.returns-in-Pointer
returns-in-Pointer c =
    subst (λ (t : CType). IsTrue false ↔ Contains c.args.self.now t) (sym c.in-Pointer.is)
    (subst (λ (ks : List CType). IsTrue false ↔ Contains ks (Pointer c.in-Pointer.field-0)) c.self.view_is (no_pointer _ _ _ _ _))
