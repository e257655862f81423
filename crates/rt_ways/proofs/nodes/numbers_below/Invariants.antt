use Rattle.std.proofs.Common.{◌≡◌, ℕ, ◌<◌, length, get_or}
use Rattle.rt_ways.proofs.nodes.numbers_below.Given as goal

abbrev pub invariant-loop-number : goal.invariant-loop-number
invariant-loop-number l = record {
  each : length l.numbers.items ≡ l.number;
  is : (k : ℕ) → k < l.number → get_or l.numbers.items k 0 ≡ k;
}
