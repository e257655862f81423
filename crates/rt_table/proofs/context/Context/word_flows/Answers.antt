use Rattle.std.proofs.Common.{◌++◌, ap, ◌∙◌, of_z, to_z, flat_map, w32}
use Rattle.std.proofs.lemmas.Int.{to_z-of_z}
use Rattle.rt_table.specs.Table.{word_defs, word_flow}
use Rattle.rt_table.specs.Inside.Told.{context_of}
use Rattle.rt_table.proofs.Loading.{word_flows-end}
use Rattle.rt_table.proofs.context.Context.word_flows.Goals as goal

pub returns : goal.returns
returns c =
    let context = context_of c.args.self.now in
    word_flows-end context c.args.site (to_z w32 (of_z w32 c.args.offset)) c.args.to.now c.args.rows.now c.loop-def.rows c.in_ok-defs.defs.items
    c.deref-def-items.result.now c.loop-def.def-index c.in_ok-defs.ensures c.deref-def-items.ensures.value c.loop-def-test.false c.loop-def.invariant
    ∙ ap (λ k. c.args.rows.now ++ flat_map (word_flow context k c.args.to.now) (word_defs context c.args.site k)) (to_z-of_z w32 c.args.offset c.ranges.offset)
