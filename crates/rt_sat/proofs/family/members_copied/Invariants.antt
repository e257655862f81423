use Rattle.std.proofs.Common.{◌≡◌, take}
use Rattle.rt_sat.proofs.family.members_copied.Given as goal

abbrev pub invariant-loop-class : goal.invariant-loop-class
invariant-loop-class l = l.copies.items ≡ take l.class-index l.members
