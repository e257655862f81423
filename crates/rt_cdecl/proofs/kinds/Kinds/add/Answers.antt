use Rattle.std.proofs.lemmas.Result.{on_ok_weaker}
use Rattle.rt_cdecl.specs.declared.declarations.CType.TheVariants.{Scalar}
use Rattle.rt_cdecl.specs.Inside.Drafts.{IsAdded}
use Rattle.rt_cdecl.proofs.KindSets.{adds_scalar, adds_unused}
use Rattle.rt_cdecl.proofs.kinds.Kinds.add.Goals as goal

pub returns-in-Unused : goal.returns-in-Unused
returns-in-Unused c = adds_unused c.self.inside.unused c.self.inside.chars c.self.inside.shorts c.self.inside.ints c.args.self.now c.args.kind.now c.self.view_is c.in-Unused.is

pub returns-in-Scalar : goal.returns-in-Scalar
returns-in-Scalar c =
    on_ok_weaker c.add_scalar.result
    (λ (added : IsAdded c.args.self.now (Scalar c.items.result.now c.in-Scalar.bits) c.add_scalar.new.self). adds_scalar c.args.self.now c.add_scalar.new.self c.args.kind.now c.in-Scalar.name c.items.result.now c.in-Scalar.bits c.in-Scalar.is c.items.ensures added)
    c.add_scalar.ensures
