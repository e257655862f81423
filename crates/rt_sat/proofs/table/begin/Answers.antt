use Rattle.std.proofs.Common.{Bool, List, sym, subst}
use Rattle.rt_sat.specs.Mattering.{AreMarked}
use Rattle.rt_sat.proofs.table.begin.Goals as goal

pub begin_by-requires-clause-marked : goal.begin_by-requires-clause-marked
begin_by-requires-clause-marked c = subst (λ (xs : List Bool). AreMarked c.args.shape.now xs) (sym c.deref.ensures.value) c.in_ok-marks.ensures

pub returns : goal.returns
returns c = (c.deref.result.now, c.in_ok-begun.ensures)
