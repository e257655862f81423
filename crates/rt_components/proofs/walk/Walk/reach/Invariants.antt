use Rattle.rt_components.proofs.walk.Walk.reach.Given as goal

abbrev pub ghost-enter : goal.ghost-enter
ghost-enter g a = g.graph
