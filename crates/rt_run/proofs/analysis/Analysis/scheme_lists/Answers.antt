use Rattle.std.proofs.Common.{◌≤◌, ◌∙◌, ap, arith, length, map}
use Rattle.std.proofs.lemmas.List.{take_all}
use Rattle.rt_run.proofs.Placing.{full_schemes, scheme_lines, schemes_told}
use Rattle.rt_run.proofs.analysis.Analysis.scheme_lists.Goals as goal

pub returns-clause-lists : goal.returns-clause-lists
returns-clause-lists c =
    let all : length c.args.self.now.schemes ≤ c.loop-number.number = omega (arith, c.requires.solved.one_each, ap length c.procs.ensures.procs, c.len-count.ensures, c.loop-number-test.false) in
    schemes_told c.args.self.now c.loop-number.lists.items c.requires (c.loop-number.invariant ∙ ap (map scheme_lines) (take_all c.loop-number.number c.args.self.now.schemes all))

pub returns-clause-full : goal.returns-clause-full
returns-clause-full c =
    let all : length c.args.self.now.schemes ≤ c.loop-number.number = omega (arith, c.requires.solved.one_each, ap length c.procs.ensures.procs, c.len-count.ensures, c.loop-number-test.false) in
    full_schemes c.args.self.now c.loop-number.lists.items c.requires (c.loop-number.invariant ∙ ap (map scheme_lines) (take_all c.loop-number.number c.args.self.now.schemes all))
