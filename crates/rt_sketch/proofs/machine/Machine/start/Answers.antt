use Rattle.rt_sketch.proofs.machine.Machine.start.Goals as goal

pub returns : goal.returns
returns c = λ lines is. c.in_ok-first.ensures lines c.args.base is c.bare-x.ensures
