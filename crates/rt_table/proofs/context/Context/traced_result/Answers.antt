use Rattle.std.proofs.Common.{◌≡◌, ◌∙◌, Bool, List, ap, false, sym}
use Rattle.std.specs.Prelude.{slice_index_or}
use Rattle.rt_table.specs.Inside.Parts.{names_result}
use Rattle.rt_table.specs.Inside.Told.{linked_call}
use Rattle.rt_table.proofs.Tracing.{named-of}
use Rattle.rt_table.proofs.context.Context.traced_result.Goals as goal

pub result_by-requires-clause-named : goal.result_by-requires-clause-named
result_by-requires-clause-named c =
    let r = c.args.result_number in
    c.named_of-names.ensures
    ∙ ap (λ (both : List Bool). slice_index_or both r false) c.requires.named
    ∙ named-of (linked_call c.args.self.now.outside c.args.call.now) r c.requires.result_number
    ∙ ap (λ target. names_result target r) (sym c.target-target.ensures.target)
