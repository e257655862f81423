use Rattle.std.proofs.Common.{subst}
use Rattle.rt_sat.specs.declared.state.State.{State}
use Rattle.rt_sat.specs.Hints.{IsTold}
use Rattle.rt_sat.specs.Increments.{named_of}
use Rattle.rt_sat.specs.Tables.{place}
use Rattle.rt_sat.proofs.Adding.{told_below}
use Rattle.rt_sat.proofs.increments.GrowingTable.has_numbers.Goals as goal

pub returns : goal.returns
returns c = λ found order lines x y tells lower upper.
    let known = named_of c.args.self.now in
    let flips = c.args.self.now.frame.flips.items in
    told_below order lines c.args.self.now tells x y c.args.lower c.args.upper lower upper
    (subst (λ (s : State). IsTold known flips tells.edges s (place c.args.upper) 0) c.forth.ensures
    (subst (λ (s : State). IsTold known flips tells.edges c.forth.result s 0) c.forth-2.ensures (c.has_way.ensures found known flips tells.edges tells.told)))
