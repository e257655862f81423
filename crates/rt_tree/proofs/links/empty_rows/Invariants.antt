use Rattle.std.proofs.Common.{◌≡◌, ℕ, [], length}
use Rattle.std.specs.Prelude.{slice_index_or}
use Rattle.rt_tree.proofs.links.empty_rows.Given as goal

abbrev pub invariant-loop : goal.invariant-loop
invariant-loop l = record {
  each : length l.rows.items ≡ l.counter;
  empty : (v : ℕ) → slice_index_or l.rows.items v [] ≡ [];
}
