use Rattle.rt_sketch.proofs.Denoting.{next_rows}
use Rattle.rt_sketch.proofs.sketch.rows_of.Goals as goal

pub returns-clause-next : goal.returns-clause-next
returns-clause-next c =
    λ is. next_rows c.args.lines.now c.args.machine.now c.in_ok-letters.letters.keys c.in_ok-rows.rows is c.in_ok-letters.ensures.next c.in_ok-rows.ensures

pub returns-clause-good : goal.returns-clause-good
returns-clause-good c = c.in_ok-rows.ensures.good
