use Rattle.rt_proc.proofs.Called.{are_entries, IfOk-both}
use Rattle.rt_proc.proofs.finder.all_entries.Goals as goal

pub returns : goal.returns
returns c =
    IfOk-both c.entries.result _ _ _
    (λ entries ascending same. are_entries c.args.code.now.source.object.now c.args.code.now.source.ends.now c.args.functions.now c.args.reached.now entries.items ascending c.requires.functions c.requires.reached same c.places.ensures)
    c.entries.ensures.ascending c.entries.ensures.same
