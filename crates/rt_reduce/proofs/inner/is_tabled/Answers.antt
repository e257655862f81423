use Rattle.std.proofs.Common.{List, [], ◌∷◌, subst}
use Rattle.rt_lines.specs.declared.variable.Dtv.{Dtv}
use Rattle.rt_outline.specs.Lines.{HasBelow}
use Rattle.rt_sure.specs.Grounds.{IsTableOf}
use Rattle.rt_reduce.proofs.Inners.{own_below}
use Rattle.rt_reduce.proofs.inner.is_tabled.Goals as goal

pub returns : goal.returns
returns c = λ e order.
    let is : IsTableOf c.args.lines.now c.in_ok-table.table = c.in_ok-table.ensures in
    subst (λ (ys : List Dtv). HasBelow order c.args.lines.now (c.args.x.now ∷ []) ys) c.from_ref.ensures.value
    (own_below c.args.lines.now c.in_ok-table.table is order (c.args.x.now ∷ []) c.from_ref.result.now
    (c.tells_of.ensures e is.told is.tells order))
