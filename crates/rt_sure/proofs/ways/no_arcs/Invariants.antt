use Rattle.std.proofs.Common.{◌≡◌, ℕ, [], length, get_or}
use Rattle.rt_sure.proofs.ways.no_arcs.Given as goal

abbrev pub invariant-loop : goal.invariant-loop
invariant-loop l = record {
  each : length l.arcs.items ≡ l.counter;
  none : (v : ℕ) → get_or l.arcs.items v [] ≡ [];
}
