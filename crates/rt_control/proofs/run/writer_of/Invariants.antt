use Rattle.std.proofs.Common.{◌≡◌, drop}
use Rattle.rt_control.specs.Runs.{writer_of}
use Rattle.rt_control.proofs.run.writer_of.Given as goal

abbrev pub invariant-loop-index : goal.invariant-loop-index
invariant-loop-index l = writer_of l.register l.steps ≡ writer_of l.register (drop l.index l.steps)
