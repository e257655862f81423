use Rattle.std.proofs.lemmas.List.Elements.{All-more}
use Rattle.rt_reports.specs.Globals.{line_globals}
use Rattle.rt_run.specs.Inside.Goods.{HasGoodSides}
use Rattle.rt_run.proofs.Naming.{fold_more}
use Rattle.std.proofs.Common.{subst}
use Rattle.rt_run.proofs.globals.note_lines.Goals as goal

pub loop-line-preserved : goal.loop-line-preserved
loop-line-preserved c = record {
  keys = fold_more line_globals c.args.lines.now c.loop-line.line-index c.line-item.result c.args.found.now.keys c.loop-line.found.keys c.note_line.new.found.keys c.loop-line-test.true c.line-item.is
      c.loop-line.invariant.keys c.in_ok-note_line.ensures.found;
  good = All-more HasGoodSides c.args.lines.now c.loop-line.line-index c.line-item.result c.loop-line-test.true c.loop-line.invariant.good (subst HasGoodSides c.line-item.is c.in_ok-note_line.ensures.good);
}
