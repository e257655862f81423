use Rattle.std.proofs.Common.{◌≡◌, ◌++◌, take}
use Rattle.std.specs.List.{flat_map}
use Rattle.rt_scheme.specs.Reports.{entry_text}
use Rattle.rt_scheme.proofs.report.push_entries.Given as goal

abbrev pub invariant-loop-entry : goal.invariant-loop-entry
invariant-loop-entry l = l.out.items ≡ l.fn.out.items ++ flat_map (entry_text l.names) (take l.entry-index l.entries)
