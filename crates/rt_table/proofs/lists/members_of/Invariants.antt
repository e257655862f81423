use Rattle.std.proofs.Common.{◌≡◌, ℕ, take}
use Rattle.rt_table.specs.Lists.{is_member}
use Rattle.rt_table.proofs.lists.members_of.Given as goal

abbrev pub invariant-loop-number : goal.invariant-loop-number
invariant-loop-number l = (q : ℕ) → is_member l.members.keys q ≡ is_member (take l.number-index l.group) q
