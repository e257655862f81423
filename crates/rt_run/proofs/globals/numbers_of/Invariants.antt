use Rattle.std.proofs.Common.{◌≡◌, [], All, fold, take}
use Rattle.std.specs.BTreeSet.{insert_key}
use Rattle.std.specs.Ordering.{nat_cmp}
use Rattle.rt_reports.specs.Globals.{entries_globals}
use Rattle.rt_run.specs.Inside.Goods.{HasGoodParts}
use Rattle.rt_run.proofs.globals.numbers_of.Given as goal

abbrev pub invariant-loop-entry : goal.invariant-loop-entry
invariant-loop-entry l = record {
  keys : l.found.keys ≡ fold (insert_key nat_cmp) [] (entries_globals (take l.entry-index l.entries));
  good : All HasGoodParts (take l.entry-index l.entries);
}
