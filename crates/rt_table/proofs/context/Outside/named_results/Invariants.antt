use Rattle.std.proofs.Common.{◌≡◌, map, take}
use Rattle.rt_table.specs.Inside.Parts.{named_results}
use Rattle.rt_table.specs.Inside.Told.{linked_of}
use Rattle.rt_table.proofs.context.Outside.named_results.Given as goal

abbrev pub invariant-loop-here : goal.invariant-loop-here
invariant-loop-here l = l.named.items ≡ map named_results (linked_of l.self (take l.here-index l.calls))
