use Rattle.std.proofs.Common.{◌≡◌, length}
use Rattle.rt_table.specs.Inside.Parts.{result_of_calls}
use Rattle.rt_table.specs.Inside.Told.{context_of}
use Rattle.rt_table.proofs.context.Context.result_of_calls.Given as goal

abbrev pub invariant-loop-site : goal.invariant-loop-site
invariant-loop-site l =
    result_of_calls (context_of l.self) l.initial.calls.items l.initial.side ≡ result_of_calls (context_of l.self) l.calls.items l.side

abbrev pub decreases-loop-site : goal.decreases-loop-site
decreases-loop-site l = length l.calls.items
