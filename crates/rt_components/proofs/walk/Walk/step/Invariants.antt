use Rattle.rt_components.proofs.walk.Walk.step.Given as goal

abbrev pub ghost-reach : goal.ghost-reach
ghost-reach g a = g.edges

abbrev pub ghost-leave : goal.ghost-leave
ghost-leave g a = g.edges
