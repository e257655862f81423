use Rattle.rt_liveness.specs.Inside.Additions.{Adds}
use Rattle.rt_liveness.specs.Inside.Closures.{Says}
use Rattle.rt_liveness.proofs.Adding.{ForFirst}
use Rattle.rt_liveness.proofs.closure.note_all.Given as goal

abbrev pub invariant-loop-rule : goal.invariant-loop-rule
invariant-loop-rule l = Adds l.initial.found.keys l.found.keys (ForFirst l.rules (Says l.when) l.rule-index)
