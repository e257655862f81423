use Rattle.std.proofs.Common.{sym, ap, ◌∙◌}
use Rattle.std.specs.Option.{option_or}
use Rattle.rt_proc.specs.Procs.{name_there}
use Rattle.rt_proc.proofs.Naming.{name_of_first-more}
use Rattle.rt_proc.proofs.names.names.Goals as goal

pub loop-symbol-preserved : goal.loop-symbol-preserved
loop-symbol-preserved c = λ place.
    let object = c.args.object.now in
    let symbol = c.symbol-item.result in
    c.in_ok-note.ensures place
    ∙ ap (λ name. option_or name (name_there object symbol place)) (c.loop-symbol.invariant place)
    ∙ sym (name_of_first-more object c.symbols-symbol-items.result.now c.loop-symbol.symbol-index symbol place c.loop-symbol-test.true c.symbol-item.is)
