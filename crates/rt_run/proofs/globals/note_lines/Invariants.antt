use Rattle.std.proofs.Common.{◌≡◌, All, fold, take}
use Rattle.std.specs.BTreeSet.{insert_key}
use Rattle.std.specs.Ordering.{nat_cmp}
use Rattle.rt_reports.specs.Globals.{lines_globals}
use Rattle.rt_run.specs.Inside.Goods.{HasGoodSides}
use Rattle.rt_run.proofs.globals.note_lines.Given as goal

abbrev pub invariant-loop-line : goal.invariant-loop-line
invariant-loop-line l = record {
  keys : l.found.keys ≡ fold (insert_key nat_cmp) l.fn.found.keys (lines_globals (take l.line-index l.lines));
  good : All HasGoodSides (take l.line-index l.lines);
}
