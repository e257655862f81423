use Rattle.std.proofs.Common.{◌≤◌, take}
use Rattle.rt_elf.specs.Names.{EndsAt}
use Rattle.rt_elf.proofs.names.end_of_names.Given as goal

abbrev pub invariant-loop-i : goal.invariant-loop-i
invariant-loop-i l = record { ends : EndsAt (take l.i l.strings) l.end; within : l.end ≤ l.i }
