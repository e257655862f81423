use Rattle.rt_witness.specs.Witnesses.{AreNaming}
use Rattle.rt_witness.proofs.naming.naming.Given as goal

abbrev pub invariant-loop-i : goal.invariant-loop-i
invariant-loop-i l = AreNaming l.named l.lines l.rows.items
