use Rattle.std.proofs.Common.{take}
use Rattle.rt_reduction.specs.Emits.{first_side, IsAnchored, Keeps}
use Rattle.rt_emit.proofs.chains.kept.Given as goal

abbrev pub invariant-loop-line : goal.invariant-loop-line
invariant-loop-line l = Keeps (λ k. IsAnchored l.lines (first_side k).base) (take l.line-index l.lines) l.out.items
