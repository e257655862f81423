use Rattle.std.proofs.Common.{ℕ, ◌<◌}
use Rattle.std.specs.Prelude.{Contains}
use Rattle.rt_track.proofs.solve.numbers.Given as goal

abbrev pub invariant-loop-number : goal.invariant-loop-number
invariant-loop-number l = record {
  all : (k : ℕ) → k < l.number → Contains l.numbers.items k;
  within : (k : ℕ) → Contains l.numbers.items k → k < l.number;
}
