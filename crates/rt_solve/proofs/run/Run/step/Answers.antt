use Rattle.std.proofs.Common.{sym, ap, subst}
use Rattle.rt_plan.specs.declared.event.Answer.{Answer}
use Rattle.rt_plan.specs.Plans.{Board}
use Rattle.rt_plan.specs.Laws.{IsOfPlan}
use Rattle.rt_plan.proofs.Events.{kept}
use Rattle.rt_solve.proofs.Coursing.{course_after}
use Rattle.rt_solve.proofs.run.Run.step.Goals as goal

pub invariant_of-self : goal.invariant_of-self
invariant_of-self g c =
    let run = c.self-2.inside in
    course_after run.facts.now run.groups.now run.sigs.now run.lattice.now run.board c.apply.new.board run.schemes c.self-2.invariant
    (subst (IsOfPlan run.board) (sym (ap (λ (p : Answer × Board). p.1) c.apply.ensures)) (kept run.board c.args.event))
