use Rattle.std.proofs.Common.{◌≡◌, ◌+◌, length, drop}
use Rattle.rt_tree.specs.Pairs.{ArePaired, InOneClass}
use Rattle.rt_tree.proofs.equality.compare_edges.Given as goal

-- the edges so far are paired
abbrev pub invariant-loop-k : goal.invariant-loop-k
invariant-loop-k l = record {
  lengths : length l.xs ≡ length l.ys;
  paired : ArePaired (λ m n. InOneClass l.class (l.i + m) (l.j + n)) (drop l.k l.xs) (drop l.k l.ys) → ArePaired (λ m n. InOneClass l.class (l.i + m) (l.j + n)) l.xs l.ys;
}
