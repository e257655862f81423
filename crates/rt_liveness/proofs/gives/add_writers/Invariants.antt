use Rattle.rt_liveness.specs.Inside.Additions.{Adds}
use Rattle.rt_liveness.specs.Inside.GivesRules.{IsWriterRule}
use Rattle.rt_liveness.proofs.Adding.{ForFirst}
use Rattle.rt_liveness.proofs.gives.add_writers.Given as goal

abbrev pub invariant-loop-def : goal.invariant-loop-def
invariant-loop-def l = Adds l.initial.rules l.rules (ForFirst l.defs (IsWriterRule l.named l.procedure.sites.now l.procedure.number l.r) l.def-index)
