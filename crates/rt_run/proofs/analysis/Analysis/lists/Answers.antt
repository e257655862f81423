use Rattle.rt_run.proofs.analysis.Analysis.lists.Goals as goal

pub returns-in-Constraints-clause-lists : goal.returns-in-Constraints-clause-lists
returns-in-Constraints-clause-lists c = rw c.in-Constraints.is c.constraints.ensures.lists

pub returns-in-Schemes-clause-lists : goal.returns-in-Schemes-clause-lists
returns-in-Schemes-clause-lists c = rw c.in-Schemes.is c.scheme_lists.ensures.lists
