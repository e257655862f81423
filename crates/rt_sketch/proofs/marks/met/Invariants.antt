use Rattle.std.proofs.Common.{take}
use Rattle.rt_lattice.specs.Lattices.{IsBelow, size_of}
use Rattle.rt_sketch.specs.Bounds.{IsBoundOf, IsGreatestUnder}
use Rattle.rt_sketch.proofs.marks.met.Given as goal

abbrev pub invariant-loop-number : goal.invariant-loop-number
invariant-loop-number l = IsGreatestUnder (IsBelow l.lattice) (size_of l.lattice) (IsBoundOf l.rows (take l.number-index l.numbers)) l.mark
