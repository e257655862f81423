use Rattle.std.proofs.Common.{None, length, sym, ap, subst, ◌∙◌, arith}
use Rattle.std.proofs.lemmas.List.{length-replicate}
use Rattle.rt_calls.specs.Callees.{AreCalleesOf}
use Rattle.rt_plan.specs.Plans.{AreLower, start}
use Rattle.rt_solve.proofs.Coursing.{course_new}
use Rattle.rt_solve.proofs.Driving.{lower_list}
use Rattle.rt_solve.proofs.run.Run.new.Goals as goal

pub new-requires-clause-lower : goal.new-requires-clause-lower
new-requires-clause-lower c =
    let procs = c.args.facts.now.procs.now in
    subst AreLower (sym c.items.ensures)
    (lower_list procs c.args.groups.now c.in_ok-callees.callees c.requires.groups
    (subst (λ ps. AreCalleesOf ps c.args.groups.now c.in_ok-callees.callees) c.procs.ensures.procs c.in_ok-callees.ensures))

pub invariant_of-result : goal.invariant_of-result
invariant_of-result c =
    course_new c.args.facts.now c.args.groups.now c.args.sigs.now c.args.lattice.now c.in_ok-board.board c.in_ok-schemes.schemes
    c.in_ok-callees.callees c.args.workers _ c.requires.facts c.requires.sigs c.requires.signatures c.requires.groups
    (subst (λ ps. AreCalleesOf ps c.args.groups.now c.in_ok-callees.callees) c.procs.ensures.procs c.in_ok-callees.ensures)
    (c.in_ok-board.ensures ∙ ap (start c.args.workers) c.items.ensures) c.in_ok-schemes.ensures
    (ap length c.in_ok-schemes.ensures ∙ length-replicate _ None
    ∙ omega (arith, c.len.ensures, ap length c.procs-2.ensures.procs, c.procs-2.ensures.few))
