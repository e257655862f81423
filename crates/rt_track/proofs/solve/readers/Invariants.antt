use Rattle.std.proofs.Common.{◌≡◌, ℕ, [], length}
use Rattle.std.specs.Prelude.{slice_index_or}
use Rattle.rt_track.proofs.Noting.{IsNoting}
use Rattle.rt_track.proofs.solve.readers.Given as goal

abbrev pub invariant-loop-node : goal.invariant-loop-node
invariant-loop-node l = record {
  each : length l.readers.items ≡ l._node-index;
  empty : (i : ℕ) → slice_index_or l.readers.items i [] ≡ [];
}

abbrev pub invariant-loop-reader : goal.invariant-loop-reader
invariant-loop-reader l = IsNoting l.nodes l.reader l.readers.items
