use Rattle.rt_proc.proofs.OneFault.{fault_places}
use Rattle.rt_proc.proofs.Whole.{places_lem}
use Rattle.rt_proc.proofs.laws.places.Goals as goal

pub returns-clause-sites : goal.returns-clause-sites
returns-clause-sites c = places_lem c.places.ensures

pub returns-clause-faults : goal.returns-clause-faults
returns-clause-faults c = fault_places c.places.ensures
