use Rattle.std.proofs.Common.{rules, ◌↔◌, IsTrue, false, Contains, List, subst}
use Rattle.rt_cdecl.specs.declared.declarations.CType.{CType}
use Rattle.rt_cdecl.specs.declared.declarations.CType.TheVariants.{Scalar}
use Rattle.rt_cdecl.proofs.KindSets.{char_has, short_has, int_has, no_width}
use Rattle.rt_cdecl.proofs.kinds.Kinds.has_scalar.Goals as goal

pub returns-in-8 : goal.returns-in-8
returns-in-8 c = rw (c.in-8.is) (subst (λ (ks : List CType). IsTrue c.has.result ↔ Contains ks (Scalar c.args.name.now 8)) c.self.view_is (char_has _ _ _ _ _ _ c.has.ensures))

pub returns-in-16 : goal.returns-in-16
returns-in-16 c = rw (c.in-16.is) (subst (λ (ks : List CType). IsTrue c.has-in-16.result ↔ Contains ks (Scalar c.args.name.now 16)) c.self.view_is (short_has _ _ _ _ _ _ c.has-in-16.ensures))

pub returns-in-32 : goal.returns-in-32
returns-in-32 c = rw (c.in-32.is) (subst (λ (ks : List CType). IsTrue c.has-in-32.result ↔ Contains ks (Scalar c.args.name.now 32)) c.self.view_is (int_has _ _ _ _ _ _ c.has-in-32.ensures))

pub returns-in_default : goal.returns-in_default
returns-in_default c =
    subst (λ (ks : List CType). IsTrue false ↔ Contains ks (Scalar c.args.name.now c.args.bits)) c.self.view_is
    (no_width _ _ _ _ _ _ (search rules) (search rules) (search rules))
