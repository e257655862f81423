use Rattle.std.proofs.Common.{ℕ, ◌<◌}
use Rattle.std.specs.Prelude.{slice_index}
use Rattle.rt_tree.specs.Pairs.{both, AreAlikeIn}
use Rattle.rt_tree.proofs.equality.compare_all.Given as goal

-- the nodes so far are like those that name their classes
abbrev pub invariant-loop-x : goal.invariant-loop-x
invariant-loop-x l = (y : ℕ) → y < l.x → AreAlikeIn l.class (both l.a l.b) y (slice_index l.class y)
