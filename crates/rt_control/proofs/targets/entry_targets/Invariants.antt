use Rattle.std.proofs.Common.{◌≡◌, drop}
use Rattle.rt_control.specs.Tables.{entry_targets}
use Rattle.rt_control.proofs.Tabled.{targets_after}
use Rattle.rt_control.proofs.targets.entry_targets.Given as goal

abbrev pub invariant-loop-entry : goal.invariant-loop-entry
invariant-loop-entry l = targets_after l.object l.places.items (drop l.entry-index l.entries) ≡ entry_targets l.object l.entries
