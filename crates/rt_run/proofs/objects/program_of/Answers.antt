use Rattle.rt_liveness.specs.Ends.{ends_of}
use Rattle.rt_run.proofs.objects.program_of.Goals as goal

pub returns-in-Err-clause-refused : goal.returns-in-Err-clause-refused
returns-in-Err-clause-refused c = c.in-Err.ensures.refused (ends_of c.args.object c.args.sigs.now)
