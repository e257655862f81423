use Rattle.std.proofs.Common.{ℕ, List, sym, subst}
use Rattle.std.specs.BTreeMap.{get}
use Rattle.std.specs.Ordering.{nat_cmp}
use Rattle.rt_refine.specs.Groups.{AreListed, class_of}
use Rattle.rt_refine.proofs.Above.{coarsest, fewer}
use Rattle.rt_refine.proofs.coarsest.classes.Goals as goal

pub loop-changed-init : goal.loop-changed-init
loop-changed-init c = record { are = c.in_ok-now.ensures; stable = λ e. absurd (cc) }

pub split_twice-requires : goal.split_twice-requires
split_twice-requires c =
    subst (λ (named : List ℕ). AreListed c.args.lines.now named) (sym c.deref.ensures.value) c.in_ok-named.ensures

pub loop-changed-preserved : goal.loop-changed-preserved
loop-changed-preserved c =
    let s = c.in_ok-parts.ensures c.loop-changed.invariant.are in
    record { are = s.are; stable = s.stable }

pub loop-changed-smaller : goal.loop-changed-smaller
loop-changed-smaller c =
    let s = c.in_ok-parts.ensures c.loop-changed.invariant.are in
    fewer c.args.lines.now (class_of (get nat_cmp c.loop-changed.now)) (class_of (get nat_cmp c.in_ok-parts.parts)) c.loop-changed.changed
    c.in_ok-parts.more c.loop-changed-test.true s

pub returns : goal.returns
returns c =
    coarsest c.args.lines.now (class_of (get nat_cmp c.loop-changed.now)) c.loop-changed.invariant.are
    (c.loop-changed.invariant.stable c.loop-changed-test.false)
