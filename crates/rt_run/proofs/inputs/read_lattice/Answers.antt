use Rattle.rt_run.specs.Inputs.{IsLatticeRefused}
use Rattle.rt_run.proofs.Refusing.{lattice_too_large, stops_with}
use Rattle.rt_run.proofs.inputs.read_lattice.Goals as goal

pub returns-in-Err-clause-stopped : goal.returns-in-Err-clause-stopped
returns-in-Err-clause-stopped g c =
    stops_with _ IsLatticeRefused (g.F.Files.content c.args.files.now) (g.F.Files.faults c.args.files.now) (g.F.Files.faults c.content_of.new.files) c.args.name.now c.in-Err.stop
    lattice_too_large c.in-Err.ensures.stopped
