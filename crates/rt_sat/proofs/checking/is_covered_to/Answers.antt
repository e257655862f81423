use Rattle.std.proofs.Common.{ℕ, [], List, get_or, ap, ◌∙◌, arith, below_more}
use Rattle.rt_sat.specs.Inside.Flags.{IsCovered, IsCoveredAt}
use Rattle.rt_sat.specs.Pushes.{asked_of}
use Rattle.rt_sat.proofs.Flagging.{listed_children}
use Rattle.rt_sat.proofs.checking.is_covered_to.Goals as goal

pub loop-end-preserved : goal.loop-end-preserved
loop-end-preserved c = λ more walked.
    let target = c.args.target.now in
    below_more
    (λ i. IsCoveredAt c.args.frame.now.named target.flip (asked_of target.matters) more target.child target.letter c.args.other c.args.count
    (get_or c.numbers_at-end-items.result.now i 0)) c.loop-end.end-index
    (c.loop-end.invariant more walked) (c.is_covered_at.ensures c.if-not-is_covered_at.false more walked)

pub returns : goal.returns
returns c = λ e more walked.
    let target = c.args.target.now in
    listed_children c.args.frame.now.named c.args.frame.now.children.items c.args.other c.numbers_at-end-items.result.now
    (λ end m. IsCovered target.flip (asked_of target.matters) more target.child target.letter end m c.args.count) c.requires.children
    (c.numbers_at-end-items.ensures ∙ ap (λ (xs : List (List ℕ)). get_or xs c.args.other.variable []) c.deref.ensures.value)
    (λ i less. c.loop-end.invariant more walked i (omega (arith, less, c.loop-end-test.false)))
