use Rattle.rt_sat.proofs.increments.GrowingTable.has.Goals as goal

pub returns : goal.returns
returns c = λ found order lines tells.
    c.has_numbers.ensures found order lines c.args.x.now c.args.y.now tells c.in-Some.ensures c.in-Some-index.ensures
