use Rattle.std.proofs.Common.{◌≡◌, ℕ, ◌+◌, ◌≤◌, false, length}
use Rattle.rt_sat.specs.Pushes.{AreTaken, IsApartAt}
use Rattle.rt_sat.proofs.spreading.sweep.Given as goal

abbrev pub invariant-loop-behind : goal.invariant-loop-behind
invariant-loop-behind l = record {
  taken : AreTaken l.fn.done.items l.done.items;
  apart : l.any ≡ false → (i : ℕ) → length l.edges ≤ i + l.behind → IsApartAt l.edges l.first l.done.items i;
}
