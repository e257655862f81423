use Rattle.std.proofs.Common.{◌≡◌, ◌++◌, ◌+◌, ap, sym, ◌∙◌}
use Rattle.std.proofs.lemmas.Result.{on_ok_weaker}
use Rattle.rt_lines.specs.declared.label.Label.TheVariants.{Out}
use Rattle.rt_frame.specs.Questions.{results}
use Rattle.rt_table.specs.Table.{port, returned}
use Rattle.rt_table.specs.Inside.Told.{context_of}
use Rattle.rt_table.proofs.Telling.{calls-told}
use Rattle.rt_table.proofs.context.Context.result_rows.Goals as goal

pub returns : goal.returns
returns c =
    let context = context_of c.args.self.now in
    let r = c.args.result_number in
    on_ok_weaker c.returned.result
    (λ e. e
    ∙ ap (λ to. c.args.rows.now ++ returned context to (10 + r) c.deref.result.now) c.in_ok-to.ensures
    ∙ ap (λ defs. c.args.rows.now ++ returned context (port context (Out r)) (10 + r) defs)
    (c.deref.ensures.value ∙ c.in_ok-defs.ensures.value ∙ ap (λ calls. results context.reading calls c.args.site (10 + r)) (sym (calls-told c.args.self.now))))
    c.returned.ensures
