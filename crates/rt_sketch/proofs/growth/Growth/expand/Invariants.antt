use Rattle.std.proofs.Common.{List, [], All, take}
use Rattle.rt_lines.specs.declared.line.Line.{Line}
use Rattle.rt_lines.specs.Lines.{HasConstantsBelow}
use Rattle.rt_lattice.specs.Lattices.{size_of}
use Rattle.rt_sketch.specs.Growths.{IsOnWay}
use Rattle.rt_sketch.specs.States.{IsMachineOf}
use Rattle.rt_sketch.proofs.Taking.{IsExpanding}
use Rattle.rt_sketch.proofs.growth.Growth.expand.Given as goal

abbrev pub invariant-loop-label : goal.invariant-loop-label
invariant-loop-label l = record {
  expanding : IsExpanding l.number (take l.label-index l.label-items) l.fn.self.states.keys l.self.states.keys l.self.tree;
  way : (lines : List Line) → IsMachineOf lines l.machine → All (HasConstantsBelow (size_of l.lattice)) lines → IsOnWay l.lattice.order lines l.machine l.number [] l.fn.self.states.keys l.fn.self.tree →
      IsOnWay l.lattice.order lines l.machine l.number (take l.label-index l.label-items) l.self.states.keys l.self.tree;
}
