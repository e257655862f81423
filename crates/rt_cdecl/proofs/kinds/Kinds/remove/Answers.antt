use Rattle.rt_cdecl.proofs.Left.{drops_scalar, drops_unused, drops_pointer}
use Rattle.rt_cdecl.proofs.kinds.Kinds.remove.Goals as goal

pub returns-in-Unused : goal.returns-in-Unused
returns-in-Unused c = drops_unused c.self.inside.unused c.self.inside.chars c.self.inside.shorts c.self.inside.ints c.args.self.now c.args.kind.now c.self.view_is c.in-Unused.is

pub returns-in-Scalar : goal.returns-in-Scalar
returns-in-Scalar c = drops_scalar c.args.self.now c.remove_scalar.new.self c.args.kind.now c.in-Scalar.name c.items.result.now c.in-Scalar.bits c.in-Scalar.is c.items.ensures c.remove_scalar.ensures

pub returns-in-Pointer : goal.returns-in-Pointer
returns-in-Pointer c = drops_pointer c.args.self.now c.args.kind.now c.in-Pointer.field-0 c.in-Pointer.is
