use Rattle.rt_liveness.specs.Inside.Additions.{Adds}
use Rattle.rt_liveness.specs.Inside.GivesRules.{AreCalleeRules}
use Rattle.rt_liveness.proofs.Adding.{ForFirst}
use Rattle.rt_liveness.proofs.gives.add_tails.Given as goal

abbrev pub invariant-loop-callee : goal.invariant-loop-callee
invariant-loop-callee l = Adds l.initial.rules l.rules (ForFirst l.tails (AreCalleeRules l.named l.procedure) l.callee-index)
