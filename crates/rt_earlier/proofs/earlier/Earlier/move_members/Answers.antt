use Rattle.std.proofs.Common.{get_or, Contains, sym, subst, arith}
use Rattle.std.proofs.lemmas.List.Elements.{Contains-get_or}
use Rattle.rt_earlier.specs.Inside.Earlier.{AreOne}
use Rattle.rt_earlier.proofs.Reaching.{one_chain}
use Rattle.rt_earlier.proofs.Keeping.{sound-set, sound-put}
use Rattle.rt_earlier.proofs.earlier.Earlier.move_members.Goals as goal

pub loop-number-preserved : goal.loop-number-preserved
loop-number-preserved c =
    let s = c.loop-number.self in
    let items = c.items-number-items.result.now in
    let k = get_or items c.loop-number.number-index 0 in
    let in_moved : Contains items k = Contains-get_or items c.loop-number.number-index 0 (omega arith) in
    record {
      moved = c.loop-number.invariant.moved;
      sound = λ order lines sound one.
          let now = c.loop-number.invariant.sound order lines sound one in
          let joined = one_chain order lines c.args.self.now.named k c.args.from c.args.to (sound.members_one c.args.from k (c.loop-number.invariant.moved k in_moved)) one in
          let here : AreOne order lines s.named k c.args.to = subst (λ named. AreOne order lines named k c.args.to) (sym c.loop-number.invariant.named) joined in
          sound-put order lines s.named c.set.new.numbers.items s.members.items s.children.entries s.todo.items
          (sound-set order lines s.named s.class.items s.members.items s.children.entries s.todo.items now c.set.new.numbers.items k c.args.to c.set.ensures here)
          c.put.new.rows.items c.args.to k c.in_ok-put.ensures here;
      named = c.loop-number.invariant.named;
    }
