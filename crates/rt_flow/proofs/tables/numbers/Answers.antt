use Rattle.rt_flow.proofs.Definitions.{def_equal}
use Rattle.rt_flow.proofs.Tabled.{numbers_more, grows_added}
use Rattle.rt_flow.proofs.tables.numbers.Goals as goal

pub loop-row-preserved : goal.loop-row-preserved
loop-row-preserved c = record {
  numbers = numbers_more c.loop-row.yielded c.loop-row.sets c.number.new.self c.loop-row.numbers.items c.push.new.self.items c.in-Some.row c.into_vec.result.items c.in_ok-number.field-0 c.loop-row.invariant.numbers c.into_vec.ensures c.in_ok-number.ensures.added c.in_ok-number.ensures.within (c.in_ok-number.ensures.found def_equal) c.in_ok-push.ensures.items;
  grows = grows_added c.args.sets.now c.loop-row.sets c.number.new.self c.into_vec.result.items c.loop-row.invariant.grows c.in_ok-number.ensures.added;
}
