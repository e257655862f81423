use Rattle.std.proofs.Common.{true, ◌∙◌, arith}
use Rattle.std.proofs.lemmas.List.{length-set}
use Rattle.rt_reduce.proofs.Rejoined.{left_staying, set_staying}
use Rattle.rt_reduce.proofs.dropping.known.Goals as goal

pub loop-i-preserved : goal.loop-i-preserved
loop-i-preserved c =
    let order = c.args.order.now in
    let lines = c.args.lines.now in
    let flags = c.loop-i.known.items in
    let i = c.loop-i.i in
    let inv = c.loop-i.invariant in
    record {
      from = omega (arith, inv.from);
      each = length-set flags i true ∙ inv.each;
      staying = set_staying order lines flags i
          (left_staying order c.requires.left.0 lines c.args.first i c.requires.left.1 inv.from) inv.staying;
    }
