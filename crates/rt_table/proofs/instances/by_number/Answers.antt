use Rattle.std.proofs.Common.{◌-◌, nat_eq, arith}
use Rattle.indexmap.specs.IndexMap.{get}
use Rattle.rt_table.proofs.Looking.{labels-more}
use Rattle.rt_table.proofs.instances.by_number.Goals as goal

pub loop-rest-preserved : goal.loop-rest-preserved
loop-rest-preserved c = record {
  within = omega arith;
  same = labels-more (get nat_eq c.loop-rest.labels) (get nat_eq c.insert.new.self) c.args.ports.now (c.loop-rest.rest - 1) c.loop-rest.rest _ (omega arith) (omega arith)
      c.in_ok-insert.ensures.updates.0 c.loop-rest.invariant.same;
}
