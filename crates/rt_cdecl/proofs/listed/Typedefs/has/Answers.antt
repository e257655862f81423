use Rattle.std.proofs.Common.{◌↔◌, IsTrue, Contains, List, subst}
use Rattle.rt_cdecl.specs.declared.declarations.CType.{CType}
use Rattle.rt_cdecl.proofs.listed.Typedefs.has.Goals as goal

pub returns : goal.returns
returns c =
    subst (λ (ks : List CType). IsTrue c.has.result ↔ Contains ks c.args.kind.now) c.self.view_is
    (λ t. (c.self.invariant c.args.kind.now).0 (c.has.ensures.0 t), λ h. c.has.ensures.1 ((c.self.invariant c.args.kind.now).1 h))
