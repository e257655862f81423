use Rattle.std.proofs.Common.{ℕ, take, Contains}
use Rattle.rt_proc.specs.declared.site.Callee.TheVariants.{Proc}
use Rattle.rt_calls.specs.Calls.{AddsEdges}
use Rattle.rt_calls.proofs.edges.add_tails.Given as goal

abbrev pub invariant-loop-callee : goal.invariant-loop-callee
invariant-loop-callee l = AddsEdges l.fn.graph l.graph l.caller (λ (q : ℕ). Contains (take l.callee-index l.tails) (Proc q))
