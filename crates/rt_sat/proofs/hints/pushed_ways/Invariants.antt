use Rattle.std.proofs.Common.{List, length}
use Rattle.rt_sat.specs.declared.state.Edge.{Edge}
use Rattle.rt_sat.specs.Hints.{IsFamily, IsToldFamily}
use Rattle.rt_sat.proofs.hints.pushed_ways.Given as goal

abbrev pub invariant-loop-group : goal.invariant-loop-group
invariant-loop-group l = record {
  family : IsFamily (length l.frame.named) l.pushed;
  told : (lines : List Edge) → IsToldFamily l.frame.named l.frame.flips.items lines l.family → IsToldFamily l.frame.named l.frame.flips.items lines l.pushed;
}
