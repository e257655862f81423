use Rattle.std.proofs.Common.{◌≡◌, ◌⊎◌, Contains, take}
use Rattle.rt_lattice.specs.Lattices.{IsBelow, size_of}
use Rattle.rt_sketch.specs.Bounds.{IsGreatestUnder}
use Rattle.rt_sketch.proofs.marks.meet_row.Given as goal

abbrev pub invariant-loop-bound : goal.invariant-loop-bound
invariant-loop-bound l = IsGreatestUnder (IsBelow l.lattice) (size_of l.lattice) (λ k. (k ≡ l.fn.first) ⊎ Contains (take l.bound-index l.row) k) l.mark
