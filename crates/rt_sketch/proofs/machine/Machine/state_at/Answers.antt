use Rattle.std.proofs.Common.{Some, ap, refl, subst, List, ℕ, Contains}
use Rattle.rt_sketch.specs.Inside.Steps.{AreAll}
use Rattle.rt_sketch.proofs.machine.Machine.state_at.Goals as goal

pub returns : goal.returns
returns c = record {
  node = refl;
  class = ap Some c.class.ensures;
  below = subst (λ (xs : List ℕ). AreAll (Contains xs) c.in_ok-below.below.items) c.below.ensures c.in_ok-below.ensures;
  above = subst (λ (xs : List ℕ). AreAll (Contains xs) c.in_ok-above.above.items) c.above.ensures c.in_ok-above.ensures;
}
