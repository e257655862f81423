use Rattle.rt_lattice.proofs.Gathering.{pair_in-none}
use Rattle.rt_lattice.proofs.document.pair_of.Goals as goal

pub returns-then-values-ne2 : goal.returns-then-values-ne2
returns-then-values-ne2 c = pair_in-none c.args.values.now c.if-values-ne2.true
