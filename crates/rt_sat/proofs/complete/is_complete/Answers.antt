use Rattle.rt_sat.proofs.Completing.{complete}
use Rattle.rt_sat.proofs.complete.is_complete.Goals as goal

pub returns-then-are_turning : goal.returns-then-are_turning
returns-then-are_turning c has =
    complete c.args.family.now c.args.edges.now (c.are_turning.ensures c.if-are_turning.true) (c.has_edges.ensures has)
