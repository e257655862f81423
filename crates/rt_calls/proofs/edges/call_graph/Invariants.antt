use Rattle.rt_calls.proofs.Adding.{IsGraphTo}
use Rattle.rt_calls.proofs.edges.call_graph.Given as goal

abbrev pub invariant-loop-caller : goal.invariant-loop-caller
invariant-loop-caller l = IsGraphTo l.procs l.caller l.graph
