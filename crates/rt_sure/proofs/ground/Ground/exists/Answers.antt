use Rattle.std.proofs.Common.{IsSome, sym, ap, subst, ◌∙◌}
use Rattle.std.specs.Option.{is_some}
use Rattle.rt_rules.proofs.Carry.{given}
use Rattle.rt_rules.proofs.Covering.{derives_more}
use Rattle.rt_shape.specs.Graphs.{node_of}
use Rattle.rt_sure.specs.Grounds.{Grounded, HasFlagged, HasShape}
use Rattle.rt_sure.proofs.ground.Ground.exists.Goals as goal

pub returns : goal.returns
returns c = λ yes order left has.
    let lines = c.self.inside.known.lines.items in
    let stays = c.self.inside.known.stays.items in
    let made : HasShape lines stays c.self.inside.known.shape = c.self.invariant.1 in
    let flagged : HasFlagged lines stays left =
    subst (λ (v : Grounded). HasFlagged v.lines v.stays left) (sym c.self.view_is) has in
    let some : IsSome (node_of c.self.inside.known.shape c.args.x.now) =
    ap is_some (sym c.node.ensures) ∙ sym c.is_some.ensures ∙ yes in
    derives_more order made.sure left (λ l d. (let s = made.flagged l d in given order left l (flagged s.0 l s.1 s.2)))
    ((made.shape.there order c.args.x.now).0 some)
