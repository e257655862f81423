use Rattle.std.proofs.Common.{◌++◌, ap, ◌∙◌, of_z, to_z, w32, rules}
use Rattle.std.proofs.lemmas.Int.{to_z-of_z}
use Rattle.std.proofs.lemmas.Result.{on_ok_weaker}
use Rattle.rt_frame.specs.Frames.{spot_at}
use Rattle.rt_table.specs.Table.{spot_flow}
use Rattle.rt_table.specs.Inside.Told.{context_of}
use Rattle.rt_table.proofs.Offsets.{stack-offset}
use Rattle.rt_table.proofs.context.Context.stack_flow.Goals as goal

pub returns-in-Frame : goal.returns-in-Frame
returns-in-Frame c =
    let context = context_of c.args.self.now in
    rw c.in-Frame.is
    (on_ok_weaker c.spot_flow.result
    (λ e. e ∙ ap (λ spot. c.args.rows.now ++ spot_flow context c.args.site c.args.to.now spot)
    (c.spot-spot.ensures
    ∙ ap (spot_at context.frame.layout)
    (to_z-of_z w32 c.wrapping_add_unsigned.result (search rules) ∙ c.wrapping_add_unsigned.ensures
    ∙ stack-offset c.in-Frame.start c.args.offset (search rules) (search rules))))
    c.spot_flow.ensures)
