use Rattle.std.proofs.Common.{refl}
use Rattle.rt_lattice.proofs.Known.{has_name-found, has_name-none}
use Rattle.rt_lattice.proofs.closure.number_of.Goals as goal

pub returns-in-Some-clause-known : goal.returns-in-Some-clause-known
returns-in-Some-clause-known c = rw (has_name-found c.args.names.now c.in-Some.number c.args.name.now (rw c.items.ensures at c.in-Some.ensures)) refl

pub returns-in_ok-copy-in-None-clause-fault : goal.returns-in_ok-copy-in-None-clause-fault
returns-in_ok-copy-in-None-clause-fault c = rw (has_name-none c.args.names.now c.args.name.now (rw c.items.ensures at c.in-None.ensures), c.in_ok-copy-in-None.ensures) refl
