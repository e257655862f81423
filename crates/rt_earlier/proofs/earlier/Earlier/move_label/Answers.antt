use Rattle.std.proofs.Common.{sym}
use Rattle.std.proofs.lemmas.Result.{on_ok_weaker}
use Rattle.rt_earlier.proofs.Reaching.{leads_on}
use Rattle.rt_earlier.proofs.Keeping.{sound-remove}
use Rattle.rt_earlier.proofs.earlier.Earlier.move_label.Goals as goal

pub returns-in-Some-clause-sound : goal.returns-in-Some-clause-sound
returns-in-Some-clause-sound c =
    let s = c.args.self.now in
    on_ok_weaker c.note.result (λ after order lines sound one.
    after order lines (sound-remove order lines s.named s.class.items s.members.items s.children.entries s.todo.items sound c.remove.new.self.entries c.args.from c.args.label c.remove.ensures.updates.0)
    (leads_on order lines s.named c.args.from c.args.to c.args.label c.in-Some.child one (sound.children_lead c.args.from c.args.label c.in-Some.child (sym c.in-Some.ensures.value))))
    c.note.ensures.sound
