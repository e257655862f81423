use Rattle.std.proofs.Common.{◌↔◌, IsTrue, List, subst}
use Rattle.rt_cdecl.specs.declared.declarations.CType.{CType}
use Rattle.rt_cdecl.specs.declared.declarations.CType.TheVariants.{Scalar}
use Rattle.rt_cdecl.specs.Inside.Endings.{HasInt}
use Rattle.rt_cdecl.proofs.listed.Typedefs.has_ints.Goals as goal

pub returns : goal.returns
returns c =
    subst (λ (ks : List CType). IsTrue c.has_ints.result ↔ HasInt ks) c.self.view_is
    (λ t. let h = c.has_ints.ensures.0 t in (h.0, (c.self.invariant (Scalar h.0 32)).0 h.1), λ h. c.has_ints.ensures.1 (h.0, (c.self.invariant (Scalar h.0 32)).1 h.1))
