use Rattle.std.proofs.Common.{◌≡◌}
use Rattle.rt_lattice.specs.declared.fault.LatFault.TheVariants.{Memory}
use Rattle.rt_lattice.proofs.Parsed.{standard_in, only_memory}
use Rattle.rt_lattice.proofs.reader.standard.Goals as goal
use Rattle.rt_lattice.proofs.reader.standard.Goals.{in-Memory, in_default}

pub returns-in-Ok : goal.returns-in-Ok
returns-in-Ok c = standard_in c.in-Ok.lattice (rw c.as_bytes.ensures.value at c.in-Ok.ensures.lattice)

pub prove-unreachable-requires : goal.prove-unreachable-requires
prove-unreachable-requires c =
    let memory : c.in-Err.fault ≡ Memory = only_memory c.in-Err.fault (rw c.as_bytes.ensures.value at c.as_bytes.ensures.utf8) (rw c.as_bytes.ensures.value at c.in-Err.ensures.fault) in
    elim c.match-matches.branch [ in-Memory w ↦ cc | in_default w ↦ w.in_default.not-Memory memory ]
