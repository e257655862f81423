use Rattle.std.proofs.Common.{◌≡◌, ℕ, [], List, get_or, ap, ◌∙◌, arith, below_more}
use Rattle.rt_lines.specs.declared.label.Label.{Label}
use Rattle.rt_sat.specs.declared.state.State.{State}
use Rattle.rt_sat.specs.Pushes.{IsChildOf, IsClosedFrom}
use Rattle.rt_sat.proofs.Flagging.{listed_children}
use Rattle.rt_sat.proofs.checking.is_parent_covered.Goals as goal

pub loop-child-preserved : goal.loop-child-preserved
loop-child-preserved c = λ edges more complete walked.
    let known = c.args.frame.now.named in
    below_more
    (λ i. (child : State) (m : Label) → child.variable ≡ get_or c.numbers_at-child-items.result.now i 0 →
    IsChildOf known child c.args.parent m →
    IsClosedFrom known c.args.frame.now.flips.items c.args.frame.now.matters.items edges more child c.args.parent m)
    c.loop-child.child-index (c.loop-child.invariant edges more complete walked)
    (c.is_child_covered.ensures c.if-not-is_child_covered.false edges more complete walked)

pub returns : goal.returns
returns c = λ e edges more complete walked.
    let known = c.args.frame.now.named in
    listed_children known c.args.frame.now.children.items c.args.parent c.numbers_at-child-items.result.now
    (λ child m. IsClosedFrom known c.args.frame.now.flips.items c.args.frame.now.matters.items edges more child c.args.parent m)
    c.requires.children
    (c.numbers_at-child-items.ensures ∙ ap (λ (xs : List (List ℕ)). get_or xs c.args.parent.variable []) c.deref.ensures.value)
    (λ i less. c.loop-child.invariant edges more complete walked i (omega (arith, less, c.loop-child-test.false)))
