use Rattle.std.proofs.Common.{◌<◌}
use Rattle.rt_ways.proofs.Closed.{IsClosing}
use Rattle.rt_ways.proofs.closing.close.Given as goal

abbrev pub invariant-loop : goal.invariant-loop
invariant-loop l = record {
  closing : IsClosing l.named l.fn.arcs.items l.arcs.items;
  limit : 0 < l.limit;
}
