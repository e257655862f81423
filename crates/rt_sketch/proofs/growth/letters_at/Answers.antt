use Rattle.std.proofs.Common.{sym}
use Rattle.rt_sketch.proofs.Entering.{next_here}
use Rattle.rt_sketch.proofs.growth.letters_at.Goals as goal

pub returns-in-Some-clause-next : goal.returns-in-Some-clause-next
returns-in-Some-clause-next c = λ lines machine.
    next_here lines machine c.args.states.now.keys c.args.number c.args.rows.now c.at.result.now.keys c.in-Some.state.now (sym c.in-Some.ensures.key) c.at.ensures
