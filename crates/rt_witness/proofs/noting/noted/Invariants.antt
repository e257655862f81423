use Rattle.rt_witness.specs.Witnesses.{AreNoted}
use Rattle.rt_witness.proofs.noting.noted.Given as goal

abbrev pub invariant-loop-i : goal.invariant-loop-i
invariant-loop-i l = AreNoted l.shape l.lines l.i l.rows.items
