use Rattle.std.proofs.Common.{Bool, sym, subst}
use Rattle.std.specs.BTreeMap.{get}
use Rattle.std.specs.Ordering.{nat_cmp}
use Rattle.rt_refine.specs.Groups.{class_of}
use Rattle.rt_refine.specs.Splits.{IsSplitTwice}
use Rattle.rt_refine.proofs.Above.{twice}
use Rattle.rt_refine.proofs.coarsest.split_twice.Goals as goal

pub returns : goal.returns
returns c = λ are.
    subst
    (λ (changed : Bool). IsSplitTwice c.args.lines.now (class_of (get nat_cmp c.args.classes.now)) (class_of (get nat_cmp c.in_ok-rights.rights))
    changed)
    (sym c.either.ensures)
    (twice c.args.lines.now (class_of (get nat_cmp c.args.classes.now)) (class_of (get nat_cmp c.in_ok-lefts.lefts))
    (class_of (get nat_cmp c.in_ok-rights.rights)) c.in_ok-lefts.left c.in_ok-rights.right c.in_ok-lefts.ensures c.in_ok-rights.ensures are)
