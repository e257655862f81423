use Rattle.rt_reduction.specs.Simplifies.{of_definitions, of_consumers}
use Rattle.rt_simplify.proofs.Joining.{merged_none}
use Rattle.rt_simplify.proofs.merging.merge_twins.Goals as goal

pub merge_of-requires : goal.merge_of-requires
merge_of-requires c = of_definitions c.args.lines.now

pub merge_of-requires-2 : goal.merge_of-requires-2
merge_of-requires-2 c =
    of_consumers c.args.lines.now (merged_none c.in_ok-merged.field-0 c.args.lines.now _ c.in_default.is c.in_ok-merged.ensures)
