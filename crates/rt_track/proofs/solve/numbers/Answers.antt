use Rattle.std.proofs.Common.{◌<◌, arith}
use Rattle.rt_track.proofs.Counting.{one_more, still_below}
use Rattle.rt_track.proofs.solve.numbers.Goals as goal

pub loop-number-preserved : goal.loop-number-preserved
loop-number-preserved c = record {
  all = one_more c.loop-number.numbers.items c.push.new.self.items c.loop-number.number c.in_ok-push.ensures.items c.loop-number.invariant.all;
  within = still_below c.loop-number.numbers.items c.push.new.self.items c.loop-number.number c.in_ok-push.ensures.items c.loop-number.invariant.within;
}

pub returns-clause-within : goal.returns-clause-within
returns-clause-within c = λ k h. let less : k < c.loop-number.number = c.loop-number.invariant.within k h in omega arith
