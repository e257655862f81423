use Rattle.std.proofs.Common.{◌≡◌, ◌-◌, length}
use Rattle.rt_table.specs.Inside.Parts.{result_of_calls}
use Rattle.rt_table.specs.Table.{at_side, def_written}
use Rattle.rt_table.specs.Inside.Told.{context_of}
use Rattle.rt_table.proofs.context.Context.at_side.Given as goal

abbrev pub invariant-loop : goal.invariant-loop
invariant-loop l =
    let context = context_of l.self in
    def_written context l.site l.register
    ≡ result_of_calls context l.calls.items (at_side (length context.reading.actions - l.counter) context l.writer l.written)
