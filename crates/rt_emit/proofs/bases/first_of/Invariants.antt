use Rattle.std.proofs.Common.{take}
use Rattle.rt_emit.proofs.FirstOnes.{HaveFirst}
use Rattle.rt_emit.proofs.bases.first_of.Given as goal

abbrev pub invariant-loop-base : goal.invariant-loop-base
invariant-loop-base l = HaveFirst l.shape (take l.base-index l.bases) l.queue
