use Rattle.std.proofs.Common.{◌≡◌, ℕ, ◌<◌, [], Contains}
use Rattle.rt_ways.specs.Arcs.{IsInRow}
use Rattle.rt_ways.specs.Pushes.{IsClosedAt, IsPushed}
use Rattle.rt_ways.proofs.closing.missing.Given as goal

abbrev pub invariant-loop-number : goal.invariant-loop-number
invariant-loop-number l = record {
  pushed : (v w : ℕ) → Contains l.fresh.items (v, w) → IsPushed l.named (IsInRow l.rows) v w;
  done : l.fresh.items ≡ [] → (n : ℕ) → n < l.number → IsClosedAt l.named (IsInRow l.rows) n;
}
