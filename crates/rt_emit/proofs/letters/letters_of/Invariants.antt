use Rattle.std.proofs.Common.{Contains, take}
use Rattle.rt_lines.specs.declared.variable.Dtv.{Dtv}
use Rattle.rt_lines.specs.declared.line.Line.{Line}
use Rattle.rt_rules.specs.Rules.{HasSide}
use Rattle.rt_shape.specs.Graphs.{Has}
use Rattle.rt_emit.specs.Inside.Letters.{with_edges, AreAfter, AreEdges}
use Rattle.rt_emit.proofs.letters.letters_of.Given as goal

abbrev pub invariant-loop-line : goal.invariant-loop-line
invariant-loop-line l = record {
  good : AreEdges l.shape l.edges.entries;
  after : AreAfter l.edges.entries l.letters;
  spelled : (line : Line) (x : Dtv) → Contains (take l.line-index l.lines) line → HasSide line x →
      Has (with_edges l.shape l.edges.entries) x;
}
