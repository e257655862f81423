use Rattle.std.proofs.Common.{subst}
use Rattle.rt_table.specs.Lists.{AreGiven}
use Rattle.rt_solve.specs.Runs.{Course}
use Rattle.rt_solve.proofs.run.Run.into_schemes.Goals as goal

pub returns-clause-given : goal.returns-clause-given
returns-clause-given c =
    subst (λ (x : Course). AreGiven x.task.object x.count c.self.inside.schemes) c.self.view_is c.self.invariant.given
