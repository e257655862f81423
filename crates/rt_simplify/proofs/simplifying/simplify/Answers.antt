use Rattle.std.proofs.Common.{List, subst}
use Rattle.rt_lines.specs.declared.line.Line.{Line}
use Rattle.rt_lines.specs.declared.label.Variance.TheVariants.{Co, Contra}
use Rattle.rt_polar.specs.Tidied.{tidied}
use Rattle.rt_reduction.specs.Simplifies.{HasNoTwins, simple}
use Rattle.rt_simplify.specs.Inside.Twins.{BecomeOne}
use Rattle.rt_simplify.proofs.Joining.{turn_more, merged_some, merged_none}
use Rattle.rt_simplify.proofs.Shrinking.{turn_shrinks}
use Rattle.rt_simplify.proofs.simplifying.simplify.Goals as goal

pub loop-left-init : goal.loop-left-init
loop-left-init c = (tidied c.args.lines, c.in_ok-left.ensures, λ left s. s)

pub loop-left-preserved : goal.loop-left-preserved
loop-left-preserved c =
    let now = c.loop-left.left in
    let (before, put, on) = c.loop-left.invariant in
    let one : BecomeOne now c.in-Some.merged =
    subst (λ (ls : List Line). BecomeOne ls c.in-Some.merged) c.items.ensures
    (merged_some c.in_ok-merged.field-0 c.items.result.now c.in-Some.merged _ c.in-Some.is c.in_ok-merged.ensures)
    in
    (tidied c.in-Some.merged, c.in_ok-left-2.ensures, λ left s. on left (turn_more now before c.in-Some.merged left put one s))

pub loop-left-smaller : goal.loop-left-smaller
loop-left-smaller c =
    let now = c.loop-left.left in
    let one : BecomeOne now c.in-Some.merged =
    subst (λ (ls : List Line). BecomeOne ls c.in-Some.merged) c.items.ensures
    (merged_some c.in_ok-merged.field-0 c.items.result.now c.in-Some.merged _ c.in-Some.is c.in_ok-merged.ensures)
    in
    turn_shrinks now c.in-Some.merged c.in_ok-left-2.left one c.in_ok-left-2.ensures

pub returns : goal.returns
returns c =
    let now = c.loop-left.left in
    let (before, put, on) = c.loop-left.invariant in
    let none : HasNoTwins Co now × HasNoTwins Contra now =
    subst (λ (ls : List Line). HasNoTwins Co ls × HasNoTwins Contra ls) c.items.ensures
    (merged_none c.in_ok-merged.field-0 c.items.result.now _ c.in_default.is c.in_ok-merged.ensures)
    in
    on now (simple before put none.0 none.1)
