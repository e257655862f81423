use Rattle.std.proofs.Common.{ℕ, ◌<◌, Option, Some, IfSome, subst, arith}
use Rattle.std.proofs.lemmas.Option.{slice_get_within}
use Rattle.rt_sat.proofs.Families.{counted_more}
use Rattle.rt_sat.proofs.family.class_count.Goals as goal

pub loop-node-preserved : goal.loop-node-preserved
loop-node-preserved c = counted_more c.args.nodes.now c.loop-node.node-index c.loop-node.count c.counted-count.result c.counted-count.ensures.more
    (λ n e. subst (λ (o : Option ℕ). IfSome o (λ k. k < c.counted-count.result)) e c.counted-count.ensures.above) c.loop-node.invariant

pub returns : goal.returns
returns c i n e = let less : i < c.loop-node.node-index = omega (arith, slice_get_within c.args.nodes.now i (Some n) e) in c.loop-node.invariant i n less e
