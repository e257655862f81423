use Rattle.std.proofs.Common.{arith}
use Rattle.rt_link.proofs.Checking.{checked-ok, goes_on, ends}
use Rattle.rt_link.proofs.Held.{holds_all}
use Rattle.rt_link.proofs.resolver.read_places.Goals as goal

pub loop-index-preserved : goal.loop-index-preserved
loop-index-preserved c = record {
  checking = goes_on _ _ c.loop-index.index _ c.loop-index.invariant.checking (omega arith) (checked-ok _ _ c.in_ok-check_place.ensures);
  heads = c.in_ok-add_head.ensures;
}

pub returns-clause-all : goal.returns-clause-all
returns-clause-all c =
    holds_all c.args.object.now c.args.relocs.now c.loop-index.heads c.loop-index.index (omega arith) (ends _ _ _ _ c.loop-index.invariant.checking (omega arith)) c.loop-index.invariant.heads
