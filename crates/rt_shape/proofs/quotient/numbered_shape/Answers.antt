use Rattle.rt_shape.specs.Graphs.{Graph}
use Rattle.rt_shape.proofs.Quotients.{number_steps, quotient_shape}
use Rattle.rt_shape.proofs.quotient.numbered_shape.Goals as goal

pub edges_of-requires-clause-one : goal.edges_of-requires-clause-one
edges_of-requires-clause-one c = let r = c.requires.number in number_steps c.args.tree.now r.0 c.args.number.now c.args.count c.requires.tree r.1 r.2 r.3

pub from_parts-requires : goal.from_parts-requires
from_parts-requires c =
    let r = c.requires.number in
    let shape : Graph = record { count = c.args.count; bases = c.in_ok-bases.bases.entries; edges = c.in_ok-edges.edges.entries } in
    quotient_shape c.args.tree.now r.0 c.args.number.now shape c.requires.tree r.1 r.2 r.3 (record { bases = c.in_ok-bases.ensures; edges = c.in_ok-edges.ensures })
