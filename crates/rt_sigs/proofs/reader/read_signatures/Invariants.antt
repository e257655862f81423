use Rattle.std.proofs.Common.{◌+◌, ◌≤◌, length}
use Rattle.rt_sigs.specs.Faults.{IsBetween}
use Rattle.rt_sigs.proofs.reader.read_signatures.Given as goal

abbrev pub invariant-loop-rest : goal.invariant-loop-rest
invariant-loop-rest l =
    record { at : IsBetween l.version l.names l.text l.sigs l.rest l.number; bounded : l.number + length l.rest ≤ length l.text + 1 }

abbrev pub decreases-loop-rest : goal.decreases-loop-rest
decreases-loop-rest l = length l.rest
