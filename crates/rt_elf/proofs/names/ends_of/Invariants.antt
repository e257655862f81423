use Rattle.std.proofs.Common.{◌≡◌, ℕ, ◌+◌, ◌≤◌, drop, length, get_or}
use Rattle.rt_elf.specs.Names.{up_to_zero}
use Rattle.rt_elf.proofs.names.ends_of.Given as goal

abbrev pub invariant-loop-k : goal.invariant-loop-k
invariant-loop-k l = record {
  len : length l.ends.items ≡ length l.strings + 1;
  each : (offset : ℕ) → l.k ≤ offset → offset ≤ length l.strings → get_or l.ends.items offset 0 ≡ offset + length (up_to_zero (drop offset l.strings));
}
