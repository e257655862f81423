use Rattle.std.proofs.Common.{ap}
use Rattle.rt_polar.specs.Tidied.{tidied}
use Rattle.rt_simplify.proofs.preparing.prepare_once.Goals as goal

pub returns : goal.returns
returns c =
    let (class, coarsest, e) = c.in_ok-least.ensures in
    (tidied c.in_ok-least.least, (class, coarsest, ap tidied e), c.in_ok-left.ensures)
