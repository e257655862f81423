use Rattle.rt_run.proofs.Placing.{AreFilled}
use Rattle.rt_run.proofs.analysis.Analysis.constraints.Given as goal

abbrev pub invariant-loop-group : goal.invariant-loop-group
invariant-loop-group l = AreFilled l.self l.group-index l.lists.items
