use Rattle.std.proofs.Common.{refl}
use Rattle.rt_lattice.proofs.Known.{has_name-found, has_name-none}
use Rattle.rt_lattice.proofs.roles.number_in.Goals as goal

pub returns-in-Some-find-clause-has : goal.returns-in-Some-find-clause-has
returns-in-Some-find-clause-has c =
    rw (← c.in-Some.ensures, has_name-found c.args.file.now.names c.in-Some-find.number c.in-Some.name.now (rw c.items.ensures at c.in-Some-find.ensures)) refl

pub returns-in-None-clause-fault : goal.returns-in-None-clause-fault
returns-in-None-clause-fault c =
    (refl, rw (← c.in-Some.ensures, has_name-none c.args.file.now.names c.in-Some.name.now (rw c.items.ensures at c.in-None.ensures)) refl)
