use Rattle.std.proofs.Common.{◌≡◌, ◌++◌, map, take}
use Rattle.rt_reduction.specs.Before.{label_numbers}
use Rattle.rt_emit.specs.Keys.{numbers}
use Rattle.rt_emit.proofs.key.push_numbers.Given as goal

abbrev pub invariant-loop-label : goal.invariant-loop-label
invariant-loop-label l = numbers l.key ≡ numbers l.initial.key ++ map label_numbers (take l.label-index l.label-items)
