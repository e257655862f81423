use Rattle.std.proofs.Common.{◌≡◌, ℕ, None, length, get_or}
use Rattle.rt_header.proofs.making.Making.new.Given as goal

abbrev pub invariant-loop : goal.invariant-loop
invariant-loop l = record {
  each : length l.numbers.items ≡ l.counter;
  none : (c : ℕ) → get_or l.numbers.items c None ≡ None;
}
