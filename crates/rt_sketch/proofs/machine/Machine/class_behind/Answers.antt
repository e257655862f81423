use Rattle.std.proofs.Common.{sym, ◌∙◌}
use Rattle.rt_sketch.proofs.machine.Machine.class_behind.Goals as goal

pub class-requires : goal.class-requires
class-requires c = c.behind.ensures.sized.behind c.args.class c.in-Some.number c.args.label (sym c.behind.ensures.number ∙ c.in-Some.is)
