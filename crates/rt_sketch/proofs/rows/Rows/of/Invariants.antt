use Rattle.std.proofs.Common.{map}
use Rattle.rt_sketch.specs.Inside.Rows.{AreEntered}
use Rattle.rt_sketch.proofs.rows.Rows.of.Given as goal

abbrev pub invariant-loop-i : goal.invariant-loop-i
invariant-loop-i l = AreEntered l.shape l.letters.keys l.i (map (λ r. r.keys) l.rows.items)
