use Rattle.std.proofs.Common.{arith}
use Rattle.rt_sat.proofs.Searching.{put_down, within-fallen}
use Rattle.rt_sat.proofs.search.go_on.Goals as goal

pub returns : goal.returns
returns c = within-fallen c.insert.new.self c.settle.new.found c.args.to c.args.count c.in_ok-settle.ensures.fallen
    (c.args.count, put_down c.args.found.now c.insert.new.self c.args.to c.args.count c.in_ok-insert.ensures, omega arith)
