use Rattle.std.proofs.Common.{take}
use Rattle.rt_texts.specs.Readings.{HasNo}
use Rattle.rt_texts.proofs.cut.split_before.Given as goal

abbrev pub invariant-loop-k : goal.invariant-loop-k
invariant-loop-k l = HasNo l.byte (take l.k l.text)
