use Rattle.std.proofs.Common.{◌++◌, subst}
use Rattle.rt_sat.specs.declared.increments.GrowingTable.{GrowingTable}
use Rattle.rt_sat.specs.declared.state.State.{State}
use Rattle.rt_sat.specs.Hints.{IsTold}
use Rattle.rt_sat.specs.Increments.{IsWith}
use Rattle.rt_sat.specs.Tables.{place}
use Rattle.rt_sat.proofs.Adding.{told_below}
use Rattle.rt_sat.proofs.Copying.{derives_among}
use Rattle.rt_sat.proofs.increments.GrowingTable.had_with.Goals as goal

pub returns : goal.returns
returns c = λ found order told tells.
    let grown : GrowingTable = c.args.self.now in
    let known = grown.frame.named in
    let flips = grown.frame.flips.items in
    let with : IsWith told c.args.lines.now c.in_ok-then.then grown = c.in_ok-then.ensures.told told tells in
    derives_among order told with.those c.args.lines.now with.among
    (told_below order (told ++ with.those) (record { frame = grown.frame; family = c.in_ok-then.then.family; kin = grown.kin }) with.tells c.args.x.now c.args.y.now c.in-Some.lower c.in-Some-index.upper c.in-Some.ensures c.in-Some-index.ensures
    (subst (λ (s : State). IsTold known flips with.tells.edges s (place c.in-Some-index.upper) 0) c.forth.ensures
    (subst (λ (s : State). IsTold known flips with.tells.edges c.forth.result s 0) c.forth-2.ensures (c.has_way.ensures found known flips with.tells.edges with.tells.told))))
