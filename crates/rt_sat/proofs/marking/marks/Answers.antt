use Rattle.std.proofs.Common.{List, Bool, subst}
use Rattle.rt_sat.specs.Mattering.{AreMarked}
use Rattle.rt_sat.proofs.marking.marks.Goals as goal

pub returns-then-are_kept : goal.returns-then-are_kept
returns-then-are_kept c = subst (λ (marks : List Bool). AreMarked c.args.shape.now marks) c.deref-2.ensures.value (c.are_kept.ensures c.if-are_kept.true)
