use Rattle.std.proofs.Common.{◌≡◌, ℕ, ◌+◌, cond, false}
use Rattle.std.specs.BTreeMap.{get}
use Rattle.std.specs.Ordering.{nat_cmp}
use Rattle.rt_refine.specs.Groups.{class_of}
use Rattle.rt_refine.specs.Refinements.{AreMatched}
use Rattle.rt_refine.specs.Splits.{AreClasses, above}
use Rattle.rt_refine.proofs.coarsest.classes.Given as goal

abbrev pub invariant-loop-changed : goal.invariant-loop-changed
invariant-loop-changed l = record {
  are : AreClasses l.lines (class_of (get nat_cmp l.now));
  stable : l.changed ≡ false → (v w : ℕ) → class_of (get nat_cmp l.now) v ≡ class_of (get nat_cmp l.now) w →
      AreMatched l.lines (class_of (get nat_cmp l.now)) v w;
}

abbrev pub decreases-loop-changed : goal.decreases-loop-changed
decreases-loop-changed l = above (class_of (get nat_cmp l.now)) l.lines + cond l.changed 1 0
