use Rattle.std.proofs.Common.{rules}
use Rattle.rt_sketch.proofs.Growing.{begun}
use Rattle.rt_sketch.proofs.growth.Growth.new.Goals as goal

pub returns-clause-way : goal.returns-clause-way
returns-clause-way c = λ lines is constants.
    begun lines c.args.machine.now c.args.lattice.now.order c.args.first c.in_ok-tree.tree c.insert.new.self.keys _ _ (search rules) c.in_ok-tree.ensures (λ x d. c.mark-low.ensures lines x is constants d)
