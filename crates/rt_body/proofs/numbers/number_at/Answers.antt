use Rattle.rt_body.proofs.Numbering.{number_found, number_missed}
use Rattle.rt_body.proofs.numbers.number_at.Goals as goal

pub returns-in-Ok : goal.returns-in-Ok
returns-in-Ok c = number_found c.args.places.now c.args.place c.in-Ok.number c.requires.ascending c.in-Ok.ensures.bound c.in-Ok.ensures.ok

pub returns-in-Err : goal.returns-in-Err
returns-in-Err c = number_missed c.args.places.now c.args.place c.in-Err.field-0 c.requires.ascending c.in-Err.ensures.position
