use Rattle.std.proofs.Common.{◌≡◌, []}
use Rattle.rt_flow.proofs.Arriving.{IsDone}
use Rattle.rt_flow.proofs.rows.rows.Given as goal

abbrev pub invariant-loop-block : goal.invariant-loop-block
invariant-loop-block l = record {
  done : IsDone l.targets l.lasts l.entry l.block l.rows.items;
  empty : l.work.items ≡ [];
}
