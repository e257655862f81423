use Rattle.std.proofs.Common.{◌≡◌, length}
use Rattle.rt_sat.proofs.hints.inner.Given as goal

abbrev pub invariant-loop-number : goal.invariant-loop-number
invariant-loop-number l = length l.flags.items ≡ length l.frame.named

abbrev pub invariant-loop-edge : goal.invariant-loop-edge
invariant-loop-edge l = length l.flags.items ≡ length l.frame.named
