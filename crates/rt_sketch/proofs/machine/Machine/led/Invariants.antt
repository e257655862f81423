use Rattle.std.proofs.Common.{[], take}
use Rattle.rt_named.specs.Numbers.{IsLeft}
use Rattle.rt_sketch.specs.Inside.Steps.{IsLed, rows_of}
use Rattle.rt_sketch.proofs.machine.Machine.led.Given as goal

abbrev pub invariant-loop-number : goal.invariant-loop-number
invariant-loop-number l = IsLeft (IsLed l.self.ways (rows_of l.self.ways l.side) (take l.number-index l.numbers) l.label) [] l.found
