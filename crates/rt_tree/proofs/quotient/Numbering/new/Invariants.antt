use Rattle.std.proofs.Common.{◌≡◌, ℕ, None, length, get_or}
use Rattle.rt_tree.proofs.quotient.Numbering.new.Given as goal

abbrev pub invariant-loop : goal.invariant-loop
invariant-loop l = record {
  each : length l.number.items ≡ l.counter;
  none : (c : ℕ) → get_or l.number.items c None ≡ None;
}
