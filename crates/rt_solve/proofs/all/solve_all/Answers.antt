use Rattle.std.proofs.Common.{sym, ap, subst, ◌∙◌}
use Rattle.rt_plan.specs.Driver.{Drives, IsFrontOf}
use Rattle.rt_plan.specs.Plans.{start}
use Rattle.rt_table.specs.Lists.{AreGiven}
use Rattle.rt_solve.specs.Runs.{Task}
use Rattle.rt_solve.specs.Solved.{AreSolved}
use Rattle.rt_solve.proofs.Driving.{callees_same, front_start, lower_list, over_solved, solved_with}
use Rattle.rt_solve.proofs.all.solve_all.Goals as goal

pub returns-in_err-run-clause-front : goal.returns-in_err-run-clause-front
returns-in_err-run-clause-front g c = λ callees are.
    subst (IsFrontOf c.args.schedule.now.number (start 4 callees)) (sym c.requires.schedule)
    (front_start c.args.schedule.now.number callees (lower_list c.args.facts.now.procs.now c.args.groups.now callees c.requires.groups are))

pub returns-in_err-drive-clause-front : goal.returns-in_err-drive-clause-front
returns-in_err-drive-clause-front g c = λ callees are.
    let facts = c.args.facts.now in
    let same = callees_same facts.object.now c.args.lattice.now.roles c.args.lattice.now.order facts.procs.now c.args.sigs.now
    c.args.groups.now c.in_ok-run.run'.task c.in_ok-run.ensures.task callees are in
    subst (λ cs. IsFrontOf c.args.schedule.now.number (start 4 cs) c.drive.new.schedule.claims) same c.drive.ensures.front

pub returns-clause-solved : goal.returns-clause-solved
returns-clause-solved g c =
    let facts = c.args.facts.now in
    let run = c.in_ok-run.run' in
    subst (AreSolved facts.object.now c.args.lattice.now.roles c.args.lattice.now.order facts.procs.now c.args.sigs.now c.args.groups.now)
    (sym c.into_schemes.ensures.schemes)
    (solved_with facts.object.now c.args.lattice.now.roles c.args.lattice.now.order facts.procs.now c.args.sigs.now c.args.groups.now run.task
    c.drive.new.run.stage.schemes c.in_ok-run.ensures.task
    (over_solved run c.drive.new.run c.in_ok-run.ensures.task.is_task c.in_ok-run.ensures.stage c.in_ok-drive.ensures.over))

pub returns-clause-given : goal.returns-clause-given
returns-clause-given g c =
    let comes = c.in_ok-drive.ensures.over.comes in
    subst (λ count. AreGiven c.args.facts.now.object.now count c.into_schemes.result) (comes.count ∙ c.in_ok-run.ensures.count)
    (subst (λ object. AreGiven object c.drive.new.run.count c.into_schemes.result)
    (ap (λ (t : Task). t.object) comes.task ∙ c.in_ok-run.ensures.task.object_is) c.into_schemes.ensures.given)

pub returns-clause-claims : goal.returns-clause-claims
returns-clause-claims g c = λ callees are.
    let facts = c.args.facts.now in
    let same = callees_same facts.object.now c.args.lattice.now.roles c.args.lattice.now.order facts.procs.now c.args.sigs.now
    c.args.groups.now c.in_ok-run.run'.task c.in_ok-run.ensures.task callees are in
    subst (λ cs. Drives c.args.schedule.now.number (start 4 cs) c.drive.new.schedule.claims) same c.in_ok-drive.ensures.claims

pub returns-clause-front : goal.returns-clause-front
returns-clause-front g c = λ callees are.
    let facts = c.args.facts.now in
    let same = callees_same facts.object.now c.args.lattice.now.roles c.args.lattice.now.order facts.procs.now c.args.sigs.now
    c.args.groups.now c.in_ok-run.run'.task c.in_ok-run.ensures.task callees are in
    subst (λ cs. IsFrontOf c.args.schedule.now.number (start 4 cs) c.drive.new.schedule.claims) same c.drive.ensures.front
