use Rattle.std.proofs.lemmas.Result.{err_from_is_err_and}
use Rattle.rt_lattice.specs.Faults.{is_no_top, is_no_bottom}
use Rattle.rt_lattice.proofs.Faulty.{join_fault}
use Rattle.rt_lattice.proofs.bounds.bounds_of.Goals as goal

pub returns-in_default-clause-fault : goal.returns-in_default-clause-fault
returns-in_default-clause-fault c = λ _. is_no_top (rw (← c.requires) c.in_ok-check_cycle.ensures.none) (rw (← c.requires) c.in_default.ensures)

pub returns-in_default-bottom_of-clause-fault : goal.returns-in_default-bottom_of-clause-fault
returns-in_default-bottom_of-clause-fault c =
    λ _. is_no_bottom (rw (← c.requires) c.in_ok-check_cycle.ensures.none) (c.in-Some.top, rw (← c.requires) c.in-Some.ensures) (rw (← c.requires) c.in_default-bottom_of.ensures)

pub returns-in_err-joins-clause-fault : goal.returns-in_err-joins-clause-fault
returns-in_err-joins-clause-fault c =
    let p = err_from_is_err_and c.from_residual-in_err-joins.result c.from_residual-in_err-joins.ensures.1 in
    rw (p.1, p.2)
    (λ m. join_fault _ _ _ _ c.requires c.in_ok-check_cycle.ensures.none (c.in-Some.top, c.in-Some.ensures) (c.in-Some-bottom_of.bottom, c.in-Some-bottom_of.ensures) c.in_err-joins.ensures.fault m)

pub returns-clause-none : goal.returns-clause-none
returns-clause-none c = rw (← c.requires) c.in_ok-check_cycle.ensures.none
