use Rattle.std.proofs.Common.{List, sym, subst}
use Rattle.rt_lines.specs.declared.line.Line.{Line}
use Rattle.rt_reduction.specs.Emits.{AreOfScheme, IsEmitted}
use Rattle.rt_reduction.specs.Rounds.{Prepares}
use Rattle.rt_reduce.proofs.Keeping.{prepared_scheme}
use Rattle.rt_reduce.proofs.rounds.written.Goals as goal

pub emit_shape-requires : goal.emit_shape-requires
emit_shape-requires c = record {
  scheme = subst AreOfScheme (sym c.items.ensures)
      (prepared_scheme c.args.lines c.in_ok-start.start c.in_ok-simple.simple c.in_ok-start.ensures c.in_ok-simple.ensures
      c.requires);
}

pub returns : goal.returns
returns c = record {
  simple = c.in_ok-simple.simple;
  is_simple = subst (Prepares c.in_ok-simple.simple) c.in_ok-start.ensures c.in_ok-simple.ensures;
  is_written = λ order. subst (λ (ls : List Line). IsEmitted order ls c.in_ok-written.written) c.items.ensures
      (c.in_ok-written.ensures order);
}
