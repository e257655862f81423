use Rattle.rt_sat.proofs.Searching.{begun, none_of_empty, searched, within-fallen}
use Rattle.rt_sat.proofs.search.search.Goals as goal

pub returns : goal.returns
returns c =
    let b = begun c.args.most c.args.edges.now c.clear.new.self c.insert.new.self c.args.start c.small.result c.small.ensures (none_of_empty c.clear.new.self c.clear.ensures) c.in_ok-insert.ensures in
    searched c.args.most c.args.edges.now c.settle.new.found (c.in_ok-settle.ensures.relaxed b.2) c.args.start
    (within-fallen c.insert.new.self c.settle.new.found c.args.start 0 c.in_ok-settle.ensures.fallen b.1) (c.in_ok-settle.ensures.walks c.args.start b.0)
