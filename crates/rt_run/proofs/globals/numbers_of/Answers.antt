use Rattle.std.proofs.Common.{[], subst}
use Rattle.std.proofs.lemmas.List.Elements.{All-more}
use Rattle.rt_scheme.specs.declared.report.Entry.{Entry}
use Rattle.rt_reports.specs.Globals.{lines_globals}
use Rattle.rt_run.specs.Inside.Goods.{HasGoodParts}
use Rattle.rt_run.proofs.Naming.{fold_more}
use Rattle.rt_run.proofs.globals.numbers_of.Goals as goal

pub loop-entry-preserved : goal.loop-entry-preserved
loop-entry-preserved c = record {
  keys = fold_more (λ (entry : Entry). lines_globals entry.lines) c.args.entries.now c.loop-entry.entry-index c.entry-item.result [] c.loop-entry.found.keys c.note_entry.new.found.keys
      c.loop-entry-test.true c.entry-item.is c.loop-entry.invariant.keys c.in_ok-note_entry.ensures.found;
  good = All-more HasGoodParts c.args.entries.now c.loop-entry.entry-index c.entry-item.result c.loop-entry-test.true c.loop-entry.invariant.good
      (subst HasGoodParts c.entry-item.is c.in_ok-note_entry.ensures.good);
}
