use Rattle.std.proofs.Common.{◌≡◌, not, take}
use Rattle.std.specs.BTreeSet.{contains}
use Rattle.std.specs.Ordering.{nat_cmp}
use Rattle.rt_record.specs.Slots.{slots as fields_of}
use Rattle.rt_record.proofs.slots.slots.Given as goal

abbrev pub invariant-loop-line : goal.invariant-loop-line
invariant-loop-line l = l.found.keys ≡ fields_of (λ n. not (contains nat_cmp l.spoiled n)) (take l.line-index l.lines)
