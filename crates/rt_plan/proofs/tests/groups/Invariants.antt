use Rattle.std.proofs.Common.{◌≡◌, length}
use Rattle.rt_plan.specs.Plans.{AreLower}
use Rattle.rt_plan.proofs.tests.groups.Given as goal

abbrev pub invariant-loop-group : goal.invariant-loop-group
invariant-loop-group l = (length l.groups.items ≡ l.group) × AreLower l.groups.items
