use Rattle.std.proofs.Common.{rules}
use Rattle.rt_cdecl.proofs.KindSets.{wide_left}
use Rattle.rt_cdecl.proofs.Left.{dropped_char, dropped_short, dropped_int}
use Rattle.rt_cdecl.proofs.kinds.Kinds.remove_scalar.Goals as goal

pub returns-in-8 : goal.returns-in-8
returns-in-8 c = dropped_char c.self.inside.unused c.self.inside.chars c.self.inside.shorts c.self.inside.ints c.args.self.now c.args.name.now c.args.bits c.remove.new.self c.self.view_is c.in-8.is c.remove.ensures

pub returns-in-16 : goal.returns-in-16
returns-in-16 c = dropped_short c.self.inside.unused c.self.inside.chars c.self.inside.shorts c.self.inside.ints c.args.self.now c.args.name.now c.args.bits c.remove-in-16.new.self c.self.view_is c.in-16.is c.remove-in-16.ensures

pub returns-in_default : goal.returns-in_default
returns-in_default c = dropped_int c.self.inside.unused c.self.inside.chars c.self.inside.shorts c.self.inside.ints c.args.self.now c.args.name.now c.args.bits c.remove-in_default.new.self c.self.view_is (wide_left c.args.bits c.requires (search rules) (search rules)) c.remove-in_default.ensures
