use Rattle.std.proofs.Common.{◌<◌, length, arith}
use Rattle.rt_tree.proofs.Both.{edges_first}
use Rattle.rt_tree.proofs.equality.edges_in.Goals as goal

pub returns-then-x-count : goal.returns-then-x-count
returns-then-x-count c =
    let less : c.args.x < length c.args.a.now = let e = c.size-count.ensures.count in let h = c.if-x-count.true in omega arith in
    edges_first c.args.a.now c.args.b.now c.args.x c.edges.result.now less c.edges.ensures
