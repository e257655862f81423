use Rattle.std.proofs.Common.{◌≡◌, take}
use Rattle.rt_rules.specs.Put.{put_lines}
use Rattle.rt_polar.proofs.putting.put.Given as goal

abbrev pub invariant-loop-line : goal.invariant-loop-line
invariant-loop-line l = l.put.items ≡ put_lines l.v l.side (take l.line-index l.lines)
