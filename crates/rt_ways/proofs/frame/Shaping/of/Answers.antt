use Rattle.rt_ways.proofs.Knowing.{nodes_there}
use Rattle.rt_ways.proofs.frame.Shaping.of.Goals as goal

pub nodes_of-requires : goal.nodes_of-requires
nodes_of-requires c = nodes_there c.args.lines.now c.in_ok-shape.shape c.args.named.now c.requires c.in_ok-shape.ensures

pub returns : goal.returns
returns c = record { shape = c.in_ok-shape.ensures; nodes = c.in_ok-nodes.ensures }
