use Rattle.rt_components.proofs.walk.Walk.visit.Given as goal

abbrev pub ghost-enter : goal.ghost-enter
ghost-enter g a = g.edges
