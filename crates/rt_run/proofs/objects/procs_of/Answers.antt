use Rattle.std.proofs.Common.{subst}
use Rattle.rt_proc.specs.Faults.{IsFaultOf}
use Rattle.rt_run.proofs.objects.procs_of.Goals as goal

pub returns-in-Err-Bad-clause-refused : goal.returns-in-Err-Bad-clause-refused
returns-in-Err-Bad-clause-refused c = (
  c.requires.linked,
  subst (IsFaultOf c.args.object.now c.args.ends.now) c.in-Err-Bad.field-0-is c.in-Err-Bad.ensures.bad,
)
