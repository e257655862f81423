use Rattle.std.proofs.Common.{◌∙◌, List, subst}
use Rattle.rt_lines.specs.declared.line.Line.{Line}
use Rattle.rt_shape.specs.Shapes.{IsShapeOf}
use Rattle.rt_ways.proofs.Knowing.{flat_nodes_there, flat_shape}
use Rattle.rt_ways.proofs.nodes.classes_of.Goals as goal

pub nodes_of-requires : goal.nodes_of-requires
nodes_of-requires c =
    flat_nodes_there c.args.lines.now c.in_ok-shape.shape c.args.named.now c.requires
    (flat_shape c.args.lines.now c.in_ok-shape.shape (subst (λ (ls : List Line). IsShapeOf ls c.in_ok-shape.shape) (c.deref.ensures.value ∙ c.in_ok-flat.ensures) c.in_ok-shape.ensures))

pub returns : goal.returns
returns c = record {
  flat = c.in_ok-shape.shape;
  shape = flat_shape c.args.lines.now c.in_ok-shape.shape (subst (λ (ls : List Line). IsShapeOf ls c.in_ok-shape.shape) (c.deref.ensures.value ∙ c.in_ok-flat.ensures) c.in_ok-shape.ensures);
  nodes = c.in_ok-classes.ensures;
}
