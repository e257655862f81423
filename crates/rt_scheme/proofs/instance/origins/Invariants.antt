use Rattle.std.proofs.Common.{◌≡◌, take}
use Rattle.rt_scheme.specs.Instances.{origins}
use Rattle.rt_scheme.proofs.instance.origins.Given as goal

abbrev pub invariant-loop-line : goal.invariant-loop-line
invariant-loop-line l = l.found.keys ≡ origins l.own (take l.line-index l.lines)
