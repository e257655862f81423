use Rattle.std.proofs.Common.{◌<◌, true, length, arith, below_more}
use Rattle.rt_outline.specs.Arcs.{Leads}
use Rattle.rt_outline.specs.Turning.{IsToldAt}
use Rattle.rt_outline.proofs.turning.are_turning.Goals as goal

pub loop-node-preserved : goal.loop-node-preserved
loop-node-preserved c =
    let sorts = c.args.sorts.now in
    record {
      known = c.in_ok-is_told.ensures.known;
      told = below_more
          (IsToldAt c.args.frame.now.origins.items (Leads c.args.frame.now.arcs.items c.args.stands.now true)
          sorts.classes.items sorts.flips.items sorts.marks.items (length sorts.classes.items))
          c.loop-node.node c.loop-node.invariant.told (c.in_ok-is_told.ensures.told c.if-not-branch.false);
    }

pub returns : goal.returns
returns c = λ e. record {
  marked = c.are_marked.ensures c.if-not-are_marked.false;
  told = λ v less p d l made.
      (let within : v < c.count-count.result = c.count-count.ensures v p l less made in
      c.loop-node.invariant.told v (omega (arith, within, c.loop-node-test.false)) p d l made);
}
