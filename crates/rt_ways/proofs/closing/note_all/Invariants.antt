use Rattle.std.proofs.Common.{◌≡◌, ℕ, ◌<◌, [], Some, get_or}
use Rattle.rt_ways.specs.Arcs.{IsInRow}
use Rattle.rt_ways.specs.Pushes.{IsGrown, IsNoted, IsPair, step_of}
use Rattle.rt_ways.proofs.closing.note_all.Given as goal

abbrev pub invariant-loop-other : goal.invariant-loop-other
invariant-loop-other l = record {
  grown : IsGrown (λ v w. (q : ℕ) × (m : ℕ) × IsInRow l.rows l.parent q × (step_of l.steps.entries q l.label ≡ Some m) × IsPair l.label l.number m v w)
      l.fn.fresh.items l.fresh.items;
  done : l.fresh.items ≡ [] → (j : ℕ) → j < l.other-index → IsNoted l.steps.entries l.rows l.label l.number (get_or l.other-items j 0);
}
