use Rattle.std.proofs.Common.{List, Bool, sym, subst}
use Rattle.std.specs.BTreeMap.{get}
use Rattle.std.specs.Ordering.{nat_cmp}
use Rattle.rt_lines.specs.declared.line.Line.{Line}
use Rattle.rt_refine.specs.declared.uses.Side.TheVariants.{Left, Right}
use Rattle.rt_refine.specs.Groups.{class_of}
use Rattle.rt_refine.specs.Splits.{IsSplit}
use Rattle.rt_twins.specs.Inside.Splits.{IsSplitTwice}
use Rattle.rt_twins.proofs.Turning.{twice}
use Rattle.rt_twins.proofs.coarsest.split_twice.Goals as goal

pub returns : goal.returns
returns c = λ sign lines lefts rights exact.
    let old = class_of (get nat_cmp c.args.classes.now) in
    let mid = class_of (get nat_cmp c.in_ok-left_parts.left_parts) in
    let new = class_of (get nat_cmp c.in_ok-parts.parts) in
    subst (λ (changed : Bool). IsSplitTwice sign lines old new changed) (sym c.either.ensures)
    (twice sign lines old mid new c.in_ok-left_parts.left c.in_ok-parts.right
    (subst (λ (ls : List Line). IsSplit Left ls old old mid c.in_ok-left_parts.left) lefts c.in_ok-left_parts.ensures)
    (subst (λ (ls : List Line). IsSplit Right ls mid mid new c.in_ok-parts.right) rights c.in_ok-parts.ensures) exact)
