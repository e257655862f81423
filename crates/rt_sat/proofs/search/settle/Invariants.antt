use Rattle.std.proofs.Common.{[], ◌∷◌}
use Rattle.rt_sat.specs.declared.state.State.{State}
use Rattle.rt_sat.specs.Searches.{AreNoted, AreFallen, AreRelaxed}
use Rattle.rt_sat.proofs.search.settle.Given as goal

abbrev pub invariant-loop : goal.invariant-loop
invariant-loop l = record {
  walks : (start : State) → AreNoted l.most l.edges start l.fn.found → AreNoted l.most l.edges start l.found;
  fallen : AreFallen l.fn.found l.found;
  relaxed : AreRelaxed l.most l.edges l.fn.found (l.fn.from ∷ []) → AreRelaxed l.most l.edges l.found l.active.items;
}
