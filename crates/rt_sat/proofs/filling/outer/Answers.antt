use Rattle.std.proofs.Common.{◌*◌, ◌<◌, List, length, sym, subst, arith}
use Rattle.rt_sat.specs.declared.filling.Turned.{Turned}
use Rattle.rt_sat.specs.Inside.Filling.{AreTurnedIn}
use Rattle.rt_sat.proofs.Homes.{turned_more}
use Rattle.rt_sat.proofs.filling.outer.Goals as goal
use Rattle.rt_sat.proofs.filling.outer.Goals.{then-is_none+in_ok-push+in_ok-push-2, else-is_none}

pub loop-index-preserved : goal.loop-index-preserved
loop-index-preserved c =
    let size = 2 * length c.args.members.now in
    elim c.if-is_none.branch [
      | then-is_none+in_ok-push+in_ok-push-2 w ↦ record {
        are =
            let forth : w.place-forth.result < size = omega (arith, w.place-forth.ensures, c.loop-index-test.true) in
            let back : w.place-back.result < size = omega (arith, w.place-back.ensures, c.loop-index-test.true) in
            let first : AreTurnedIn size w.push.new.self.items = subst (λ (xs : List Turned). AreTurnedIn size xs) (sym w.in_ok-push.ensures.items)
            (turned_more size c.loop-index.outer.items (record { forth = w.place-forth.result; back = w.place-back.result }) c.loop-index.invariant.are forth back) in
            let both : AreTurnedIn size w.push-then-is_none.new.self.items = subst (λ (xs : List Turned). AreTurnedIn size xs) (sym w.in_ok-push-2.ensures.items)
            (turned_more size w.push.new.self.items (record { forth = w.place-back.result; back = w.place-forth.result }) first back forth) in
            subst (λ outer. AreTurnedIn size outer.items) (sym w.outer-is) both;
      }
      | else-is_none w ↦ record { are = subst (λ outer. AreTurnedIn size outer.items) (sym w.outer-is) c.loop-index.invariant.are }
    ]
