use Rattle.std.proofs.Common.{subst}
use Rattle.rt_lines.specs.OrderFacts.{IsOrder}
use Rattle.rt_lattice.specs.Lattices.{size_of}
use Rattle.rt_sketch.proofs.Whole.{lows_below, ups_below}
use Rattle.rt_sketch.proofs.sketch.tree_of.Goals as goal

pub grown-requires-clause-lattice : goal.grown-requires-clause-lattice
grown-requires-clause-lattice c = c.order.ensures.lattice

pub grown-requires-clause-order : goal.grown-requires-clause-order
grown-requires-clause-order c = subst IsOrder c.order.ensures.order c.count-count.ensures.order

pub grown-requires-clause-lows : goal.grown-requires-clause-lows
grown-requires-clause-lows c =
    lows_below c.args.lines.now c.args.machine.now (size_of c.args.lattice.now) c.requires.machine c.requires.constants

pub grown-requires-clause-ups : goal.grown-requires-clause-ups
grown-requires-clause-ups c =
    ups_below c.args.lines.now c.args.machine.now (size_of c.args.lattice.now) c.requires.machine c.requires.constants

pub grown-requires-clause-labels : goal.grown-requires-clause-labels
grown-requires-clause-labels c = c.in_ok-rows.ensures.good

pub returns : goal.returns
returns c = c.in_ok-tree.ensures c.args.lines.now c.requires.machine c.requires.constants (c.in_ok-rows.ensures.next c.requires.machine)
