use Rattle.std.proofs.Common.{subst}
use Rattle.rt_elf.specs.Checks.{first_fault}
use Rattle.rt_elf.specs.Faults.{IsFaultOf}
use Rattle.rt_run.specs.Objects.IsRefused.{of_bytes}
use Rattle.rt_run.proofs.objects.read_object.Goals as goal

pub returns-in-Err-Bad-clause-refused : goal.returns-in-Err-Bad-clause-refused
returns-in-Err-Bad-clause-refused c = λ signatures. of_bytes _ _ (subst (IsFaultOf (first_fault c.args.bytes.now)) c.in-Err-Bad.field-0-is c.in-Err-Bad.ensures.bad)
