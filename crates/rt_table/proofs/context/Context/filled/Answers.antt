use Rattle.std.proofs.Common.{◌++◌, ◌∷◌, [], ◌∙◌, ap, sym}
use Rattle.rt_table.specs.Table.{filled, instance_rows}
use Rattle.rt_table.specs.Inside.Told.{context_of}
use Rattle.rt_table.proofs.Looking.{filled-append}
use Rattle.rt_table.proofs.context.Context.filled.Goals as goal

pub loop-item-preserved : goal.loop-item-preserved
loop-item-preserved c =
    let f = instance_rows (context_of c.args.self.now) in
    c.in_ok-fill.ensures ∙ ap (λ rows. rows ++ filled f (c.in-Some.item ∷ [])) c.loop-item.invariant ∙ sym (filled-append f c.loop-item.yielded (c.in-Some.item ∷ []))
