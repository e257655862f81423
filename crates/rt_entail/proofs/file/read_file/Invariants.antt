use Rattle.std.proofs.Common.{length}
use Rattle.rt_entail.proofs.Reading.{IsReadTo}
use Rattle.rt_entail.proofs.file.read_file.Given as goal

abbrev pub invariant-loop-rest : goal.invariant-loop-rest
invariant-loop-rest l = IsReadTo l.names l.text l.lines l.rest

abbrev pub decreases-loop-rest : goal.decreases-loop-rest
decreases-loop-rest l = length l.rest
