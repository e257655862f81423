use Rattle.std.proofs.Common.{List, Option, ℕ, sym, subst}
use Rattle.rt_named.specs.Nodes.{AreFlipsOf, AreNodesOf}
use Rattle.rt_sat.proofs.Frames.{flagged_by, named_distinct, side_named}
use Rattle.rt_sat.proofs.table.begin_by.Goals as goal

pub children-requires : goal.children-requires
children-requires c = named_distinct c.args.lines.now c.args.extra.now c.in_ok-named.named c.in_ok-named.ensures

pub line_edges-requires : goal.line_edges-requires
line_edges-requires c = side_named c.args.lines.now c.args.extra.now c.in_ok-named.named c.in_ok-named.ensures

pub returns : goal.returns
returns c = record {
  graph = c.args.shape.now;
  is_named = c.in_ok-named.ensures;
  distinct = named_distinct c.args.lines.now c.args.extra.now c.in_ok-named.named c.in_ok-named.ensures;
  children = c.in_ok-children.ensures;
  nodes = c.in_ok-nodes.ensures.each;
  shape = c.requires.shape;
  flagged =
      flagged_by c.args.shape.now c.in_ok-named.named c.in_ok-nodes.nodes.items c.in_ok-flips.flips.items c.in_ok-nodes.ensures
      (subst (λ (ns : List (Option ℕ)). AreFlipsOf c.args.shape.now ns c.in_ok-flips.flips.items) c.deref.ensures.value c.in_ok-flips.ensures);
  marked = c.requires.marked;
  mattering =
      c.in_ok-matters.ensures c.args.shape.now c.in_ok-named.named
      (subst (λ (ns : List (Option ℕ)). AreNodesOf c.args.shape.now c.in_ok-named.named ns) (sym c.deref-2.ensures.value) c.in_ok-nodes.ensures);
  extra_there = c.requires.there;
  entered = c.in_ok-first.ensures;
}
