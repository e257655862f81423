use Rattle.std.proofs.Common.{◌<◌, length, sym, subst}
use Rattle.rt_components.specs.Groups.{group_at}
use Rattle.rt_solve.specs.Runs.{Course}
use Rattle.rt_solve.specs.Inside.Courses.{AreFoundFor}
use Rattle.rt_solve.proofs.Coursing.{course_more}
use Rattle.rt_solve.proofs.run.Run.solve.Goals as goal

pub invariant_of-self : goal.invariant_of-self
invariant_of-self g c =
    let run = c.self.inside in
    let found = c.in_ok-found.found in
    course_more run.facts.now run.groups.now run.sigs.now run.lattice.now run.board run.schemes c.set_schemes.new.schemes found
    c.self.invariant c.args.group
    (subst (λ (x : Course). c.args.group < length x.task.groups) (sym c.self.view_is) c.requires)
    (subst (λ (x : Course). AreFoundFor x (group_at x.task.groups c.args.group) found) (sym c.self.view_is) c.in_ok-found.ensures.found)
    c.set_schemes.ensures
