use Rattle.std.proofs.Common.{◌≡◌, ◌++◌, ◌-◌, ◌≤◌, length, replicate}
use Rattle.rt_settle.proofs.ordering.push_padded.Given as goal

abbrev pub invariant-loop : goal.invariant-loop
invariant-loop l =
    (length l.digits.items ≤ l.counter) × (l.counter - length l.digits.items ≤ 3 - length l.digits.items)
    × (l.out.items ≡ l.fn.out.items ++ replicate (l.counter - length l.digits.items) 48)
