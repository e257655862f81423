use Rattle.rt_sat.proofs.Copying.{tells_copied}
use Rattle.rt_sat.proofs.increments.GrowingTable.snapshot.Goals as goal

pub returns : goal.returns
returns c lines = tells_copied lines c.args.self.now c.in_ok-family.family c.in_ok-family.ensures.members c.in_ok-family.ensures.grids
