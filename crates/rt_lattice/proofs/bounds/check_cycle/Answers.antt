use Rattle.rt_lattice.specs.Faults.{is_cycle}
use Rattle.rt_lattice.proofs.bounds.check_cycle.Goals as goal

pub returns-in_ok-name_of-in-Some-clause-fault : goal.returns-in_ok-name_of-in-Some-clause-fault
returns-in_ok-name_of-in-Some-clause-fault c =
    λ _. is_cycle _ (record { number = c.in-Some.a; named = c.in_ok-name_of-in-Some.ensures; cycle = rw (← c.requires) c.in-Some.ensures.first })
