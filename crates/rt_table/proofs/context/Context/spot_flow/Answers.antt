use Rattle.std.proofs.Common.{◌++◌, ap, ◌∙◌, flat_map, w32, rules}
use Rattle.std.proofs.lemmas.Int.{to_z-of_z}
use Rattle.std.proofs.lemmas.Result.{on_ok_weaker}
use Rattle.rt_table.specs.Table.{word_defs, word_flow}
use Rattle.rt_table.specs.Inside.Told.{context_of}
use Rattle.rt_table.proofs.context.Context.spot_flow.Goals as goal

pub returns-in-Location : goal.returns-in-Location
returns-in-Location c =
    let context = context_of c.args.self.now in
    rw c.in-Location.is
    (on_ok_weaker c.word_flows.result
    (λ e. e ∙ ap (λ k. c.args.rows.now ++ flat_map (word_flow context k c.args.to.now) (word_defs context c.args.site k)) (to_z-of_z w32 c.in-Location.offset (search rules)))
    c.word_flows.ensures)
