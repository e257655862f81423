use Rattle.std.proofs.Common.{◌≡◌, ◌≤◌, List, [], All, Some, length}
use Rattle.std.specs.List.{slice_get}
use Rattle.rt_lines.specs.declared.line.Line.{Line}
use Rattle.rt_lines.specs.Lines.{HasConstantsBelow}
use Rattle.rt_lattice.specs.Lattices.{size_of}
use Rattle.rt_sketch.specs.Growths.{HasNextRows, HasTaken, IsOnWay}
use Rattle.rt_sketch.specs.States.{IsMachineOf}
use Rattle.rt_sketch.proofs.growth.grown.Given as goal

abbrev pub invariant-loop-number : goal.invariant-loop-number
invariant-loop-number l = record {
  taken : HasTaken l.number [] l.growth.states.keys l.growth.tree;
  within : l.number ≤ length l.growth.tree;
  begins : slice_get l.growth.states.keys 0 ≡ Some l.fn.first;
  way : (lines : List Line) → IsMachineOf lines l.machine → All (HasConstantsBelow (size_of l.lattice)) lines → HasNextRows lines l.machine l.rows →
      IsOnWay l.lattice.order lines l.machine l.number [] l.growth.states.keys l.growth.tree;
}
