use Rattle.std.proofs.Common.{◌≡◌, take}
use Rattle.rt_scheme.specs.Instances.{ports_from}
use Rattle.rt_scheme.proofs.instance.ports.Given as goal

abbrev pub invariant-loop-place : goal.invariant-loop-place
invariant-loop-place l = l.ports ≡ ports_from l.first_free (take l.place l.found.keys)
