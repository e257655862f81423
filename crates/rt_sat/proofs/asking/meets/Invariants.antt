use Rattle.std.proofs.Common.{ℕ, ◌<◌, get_or, Contains}
use Rattle.rt_sat.specs.Searches.{Walk}
use Rattle.rt_sat.specs.Tables.{place}
use Rattle.rt_sat.proofs.asking.meets.Given as goal

abbrev pub invariant-loop-source : goal.invariant-loop-source
invariant-loop-source l = (j : ℕ) → j < l.source-index → (t : ℕ) → Contains l.targets t → Walk l.layers.edges.items (place (get_or l.sources j 0)) (place t) 0 → ⊥
