use Rattle.std.proofs.Common.{ℕ, List, sym, subst, ◌∙◌}
use Rattle.std.specs.BTreeMap.{get}
use Rattle.std.specs.Ordering.{nat_cmp}
use Rattle.rt_lines.specs.declared.line.Line.{Line}
use Rattle.rt_refine.specs.Groups.{AreListed, class_of}
use Rattle.rt_twins.proofs.Turning.{coarsest, fewer}
use Rattle.rt_twins.proofs.coarsest.classes_from.Goals as goal

pub loop-changed-init : goal.loop-changed-init
loop-changed-init c = record { exact = c.in_ok-now.ensures; stable = λ e. absurd (cc) }

pub split_twice-requires-clause-left_names : goal.split_twice-requires-clause-left_names
split_twice-requires-clause-left_names c =
    subst (λ (lines : List Line). AreListed lines c.deref.result.now) (c.items.ensures ∙ sym c.items-in-loop-changed.ensures)
    (subst (λ (named : List ℕ). AreListed c.items.result.now named) (sym c.deref.ensures.value) c.in_ok-left_names.ensures)

pub split_twice-requires-clause-right_names : goal.split_twice-requires-clause-right_names
split_twice-requires-clause-right_names c =
    subst (λ (lines : List Line). AreListed lines c.deref-in-loop-changed.result.now)
    (c.items-2.ensures ∙ sym c.items-in-loop-changed-2.ensures)
    (subst (λ (named : List ℕ). AreListed c.items-2.result.now named) (sym c.deref-in-loop-changed.ensures.value)
    c.in_ok-right_names.ensures)

pub loop-changed-preserved : goal.loop-changed-preserved
loop-changed-preserved c =
    let s = c.in_ok-parts.ensures c.args.sign c.args.lines.now
    (c.items-in-loop-changed.ensures ∙ c.in_ok-lefts.ensures) (c.items-in-loop-changed-2.ensures ∙ c.in_ok-rights.ensures) c.loop-changed.invariant.exact in
    record { exact = s.exact; stable = s.stable }

pub loop-changed-smaller : goal.loop-changed-smaller
loop-changed-smaller c =
    let s = c.in_ok-parts.ensures c.args.sign c.args.lines.now
    (c.items-in-loop-changed.ensures ∙ c.in_ok-lefts.ensures) (c.items-in-loop-changed-2.ensures ∙ c.in_ok-rights.ensures) c.loop-changed.invariant.exact in
    fewer c.args.sign c.args.lines.now (class_of (get nat_cmp c.loop-changed.now)) (class_of (get nat_cmp c.in_ok-parts.parts))
    c.loop-changed.changed
    c.in_ok-parts.more c.loop-changed-test.true s

pub returns : goal.returns
returns c =
    coarsest c.args.sign c.args.lines.now (class_of (get nat_cmp c.loop-changed.now)) c.loop-changed.invariant.exact.are
    (c.loop-changed.invariant.stable c.loop-changed-test.false)
