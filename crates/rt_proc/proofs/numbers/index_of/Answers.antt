use Rattle.rt_proc.proofs.Numbered.{found, missed}
use Rattle.rt_proc.proofs.numbers.index_of.Goals as goal

pub returns-in-Ok : goal.returns-in-Ok
returns-in-Ok c = found c.args.entries.now c.args.place c.in-Ok.index c.requires c.in-Ok.ensures.bound c.in-Ok.ensures.ok

pub returns-in-Err : goal.returns-in-Err
returns-in-Err c = missed c.args.entries.now c.args.place c.in-Err.field-0 c.requires c.in-Err.ensures.position
