use Rattle.std.proofs.Common.{◌≡◌, ℕ, Contains, slice_index, take}
use Rattle.rt_shape.proofs.closing.pair_apart.Given as goal

abbrev pub invariant-loop-i : goal.invariant-loop-i
invariant-loop-i l =
    (i j : ℕ) → Contains (take l.i-index l.pairs) (i, j) → slice_index l.class i ≡ slice_index l.class j
