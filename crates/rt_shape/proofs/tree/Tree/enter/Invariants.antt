use Rattle.std.proofs.Common.{◌≡◌, ◌<◌, ◌⊎◌, Some, take}
use Rattle.rt_lines.specs.declared.variable.Dtv.{Dtv}
use Rattle.rt_shape.specs.Graphs.{Has, IsKept, node_of}
use Rattle.rt_shape.specs.Shapes.{IsFront}
use Rattle.rt_shape.proofs.tree.Tree.enter.Given as goal

abbrev pub invariant-loop-label : goal.invariant-loop-label
invariant-loop-label l =
    let front : Dtv = record { base = l.x.base; word = take l.label-index l.x.word } in
    record {
      letters : l.label-items ≡ l.x.word;
      within : l.node < l.self.count;
      here : node_of l.self front ≡ Some l.node;
      kept : IsKept l.fn.self l.self;
      only : (y : Dtv) → Has l.self y → Has l.fn.self y ⊎ IsFront y front;
    }
