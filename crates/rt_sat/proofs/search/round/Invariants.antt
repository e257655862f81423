use Rattle.std.proofs.Common.{◌++◌, drop}
use Rattle.rt_sat.specs.declared.state.State.{State}
use Rattle.rt_sat.specs.Searches.{AreNoted, AreFallen, AreRelaxed}
use Rattle.rt_sat.proofs.search.round.Given as goal

abbrev pub invariant-loop-state : goal.invariant-loop-state
invariant-loop-state l = record {
  walks : (start : State) → AreNoted l.most l.edges start l.fn.found → AreNoted l.most l.edges start l.found;
  fallen : AreFallen l.fn.found l.found;
  relaxed : AreRelaxed l.most l.edges l.fn.found l.active → AreRelaxed l.most l.edges l.found (l.next.items ++ drop l.state-index l.active);
}
