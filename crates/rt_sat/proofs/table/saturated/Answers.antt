use Rattle.std.proofs.Common.{Bool, List, sym, subst}
use Rattle.rt_sat.specs.Mattering.{AreMarked}
use Rattle.rt_sat.proofs.table.saturated.Goals as goal

pub saturated_by-requires-clause-marked : goal.saturated_by-requires-clause-marked
saturated_by-requires-clause-marked c = subst (λ (xs : List Bool). AreMarked c.args.shape.now xs) (sym c.deref.ensures.value) c.in_ok-marks.ensures
