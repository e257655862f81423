use Rattle.std.proofs.Common.{◌≡◌}
use Rattle.rt_lines.specs.declared.variable.Dtv.{Dtv}
use Rattle.rt_shape.specs.Graphs.{node_of}
use Rattle.rt_shape.specs.Shapes.{IsFront}
use Rattle.rt_shape.proofs.Fronts.{front_of}
use Rattle.rt_witness.specs.Witnesses.{AreKept, IsNotedIn}
use Rattle.rt_witness.proofs.noting.note_side.Given as goal

abbrev pub invariant-loop-letter : goal.invariant-loop-letter
invariant-loop-letter l = record {
  letters : l.letter-items ≡ l.x.word;
  node : l.node ≡ node_of l.shape (front_of l.x l.letter-index);
  noted : (y : Dtv) → IsFront y (front_of l.x l.letter-index) → IsNotedIn l.shape l.rows.items l.i y;
  kept : AreKept l.fn.rows.items l.rows.items;
}
