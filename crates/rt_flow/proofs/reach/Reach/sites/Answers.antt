use Rattle.rt_flow.proofs.Sourcing.{told}
use Rattle.rt_flow.proofs.reach.Reach.sites.Goals as goal

pub returns-clause-reaching : goal.returns-clause-reaching
returns-clause-reaching c = λ body is site loc less. told body c.args.self.now is site loc less
