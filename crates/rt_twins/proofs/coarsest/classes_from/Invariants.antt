use Rattle.std.proofs.Common.{◌≡◌, ℕ, ◌+◌, cond, false}
use Rattle.std.specs.BTreeMap.{get}
use Rattle.std.specs.Ordering.{nat_cmp}
use Rattle.rt_refine.specs.Groups.{class_of}
use Rattle.rt_refine.specs.Splits.{above}
use Rattle.rt_twins.specs.Inside.Splits.{AreExactClasses}
use Rattle.rt_twins.specs.Twinnings.{AreMatched}
use Rattle.rt_twins.proofs.coarsest.classes_from.Given as goal

abbrev pub invariant-loop-changed : goal.invariant-loop-changed
invariant-loop-changed l = record {
  exact : AreExactClasses l.fn.sign l.lines (class_of (get nat_cmp l.now));
  stable : l.changed ≡ false → (v w : ℕ) → class_of (get nat_cmp l.now) v ≡ class_of (get nat_cmp l.now) w →
      AreMatched l.fn.sign l.lines (class_of (get nat_cmp l.now)) v w;
}

abbrev pub decreases-loop-changed : goal.decreases-loop-changed
decreases-loop-changed l = above (class_of (get nat_cmp l.now)) l.lines + cond l.changed 1 0
