use Rattle.std.proofs.Common.{◌≡◌}
use Rattle.rt_polar.specs.Inside.Places.{lines_of}
use Rattle.rt_polar.proofs.putting_away.gathered.Given as goal

abbrev pub invariant-loop-slot : goal.invariant-loop-slot
invariant-loop-slot l = l.lines.items ≡ lines_of l.yielded
