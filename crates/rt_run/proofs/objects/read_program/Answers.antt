use Rattle.rt_run.proofs.Refusing.{refused_read}
use Rattle.rt_run.proofs.objects.read_program.Goals as goal

pub returns-in-Err-clause-refused : goal.returns-in-Err-clause-refused
returns-in-Err-clause-refused c = c.in-Err.ensures.refused c.args.sigs.now

pub returns-clause-refused : goal.returns-clause-refused
returns-clause-refused c =
    refused_read c.args.sigs.now c.args.bytes.now c.in-Ok.object c.program_of.result (record { unrefused = c.in-Ok.ensures.unrefused; is_object = c.in-Ok.ensures.found }) c.program_of.ensures.refused
