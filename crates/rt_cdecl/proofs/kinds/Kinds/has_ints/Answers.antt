use Rattle.rt_cdecl.proofs.Left.{ints_has}
use Rattle.rt_cdecl.proofs.kinds.Kinds.has_ints.Goals as goal

pub returns : goal.returns
returns c = ints_has c.self.inside.unused c.self.inside.chars c.self.inside.shorts c.self.inside.ints c.args.self.now c.len.result c.self.view_is c.len.ensures.len
