use Rattle.std.proofs.Common.{sym, subst}
use Rattle.rt_outline.specs.Inside.Found.{AreFlagged}
use Rattle.rt_outline.proofs.found.Found.clear.Goals as goal

pub invariant_of-self : goal.invariant_of-self
invariant_of-self c = subst (AreFlagged c.clear_flags.new.flags.items) (sym c.clear.ensures.items) c.clear_flags.ensures

pub clear_flags-requires : goal.clear_flags-requires
clear_flags-requires c = subst (AreFlagged c.self.inside.flags.items) (sym c.deref.ensures.value) c.self.invariant
