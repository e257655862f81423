use Rattle.std.proofs.Common.{◌≡◌, ◌++◌, Some, sym, ap, ◌∙◌}
use Rattle.std.specs.Option.{option_to_list}
use Rattle.rt_table.specs.Inside.Parts.{result_of_calls}
use Rattle.rt_table.specs.Inside.Told.{context_of}
use Rattle.rt_table.proofs.Tracing.{result_of_calls-more}
use Rattle.rt_table.proofs.context.Context.result_of_calls.Goals as goal

pub loop-site-preserved : goal.loop-site-preserved
loop-site-preserved c =
    let context = context_of c.args.self.now in
    let left = c.pop.new.self.items in
    c.loop-site.invariant
    ∙ ap (λ calls. result_of_calls context calls c.loop-site.side) (c.pop.ensures.items ∙ ap (λ popped. left ++ option_to_list popped) c.in-Some.is)
    ∙ result_of_calls-more context left c.in-Some.site c.loop-site.side
    ∙ ap (λ found. result_of_calls context left (Some found)) (sym c.in_ok-pointer_result.ensures)
