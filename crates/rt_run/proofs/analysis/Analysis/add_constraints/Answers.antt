use Rattle.std.proofs.Common.{◌<◌, All, length, subst, sym}
use Rattle.rt_table.specs.Bodies.{numbers_in}
use Rattle.rt_run.specs.Inside.Analyses.{AreListed, procs_in}
use Rattle.rt_run.proofs.Placing.{lists_more, members_within}
use Rattle.rt_run.proofs.analysis.Analysis.add_constraints.Goals as goal

pub lines_of-requires-clause-within : goal.lines_of-requires-clause-within
lines_of-requires-clause-within c = members_within (procs_in c.args.self.now) c.args.self.now.groups c.args.group.now c.requires.analysis.groups c.requires.group

pub put-requires : goal.put-requires
put-requires c =
    subst (λ n. All (λ number. number < n) (numbers_in c.in_ok-bodies.bodies)) (sym c.requires.long)
    (subst (All (λ number. number < length (procs_in c.args.self.now))) (sym c.in_ok-bodies.ensures.numbers) (members_within (procs_in c.args.self.now) c.args.self.now.groups c.args.group.now c.requires.analysis.groups c.requires.group))

pub returns-clause-lists : goal.returns-clause-lists
returns-clause-lists c =
    lists_more c.args.self.now c.args.group.now c.in_ok-bodies.bodies c.args.lists.now.items c.put.new.lists.items c.requires.analysis c.requires.group c.in_ok-bodies.ensures.numbers
    c.in_ok-bodies.ensures.found (c.in_ok-bodies.ensures.constants c.requires.analysis.given) (c.in_ok-bodies.ensures.globals c.requires.analysis.given) c.put.ensures.each c.requires.lists

pub returns-clause-members : goal.returns-clause-members
returns-clause-members c = subst (AreListed c.put.new.lists.items) c.in_ok-bodies.ensures.numbers c.put.ensures.members
