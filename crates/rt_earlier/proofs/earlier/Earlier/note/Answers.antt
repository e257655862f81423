use Rattle.std.proofs.Common.{refl, sym}
use Rattle.std.proofs.lemmas.Result.{on_ok_weaker}
use Rattle.rt_earlier.proofs.Reaching.{leads_one}
use Rattle.rt_earlier.proofs.Keeping.{sound-push, sound-insert}
use Rattle.rt_earlier.proofs.earlier.Earlier.note.Goals as goal

pub returns-in_ok-push-in-Some-clause-sound : goal.returns-in_ok-push-in-Some-clause-sound
returns-in_ok-push-in-Some-clause-sound c = λ order lines sound lead.
    let s = c.args.self.now in
    let other = c.in-Some.other.now in
    sound-push order lines s.named s.class.items s.members.items s.children.entries s.todo.items sound c.push.new.self.items other c.args.number c.in_ok-push-in-Some.ensures.items
    (leads_one order lines s.named c.args.class c.args.label other c.args.number (sound.children_lead c.args.class c.args.label other (sym c.in-Some.ensures.value)) lead)

pub returns-in-Load-clause-sound : goal.returns-in-Load-clause-sound
returns-in-Load-clause-sound c =
    let s = c.args.self.now in
    on_ok_weaker c.note_pointer.result (λ after order lines sound lead.
    after order lines (sound-insert order lines s.named s.class.items s.members.items s.children.entries s.todo.items sound c.insert.new.self.entries c.args.class c.args.label c.args.number c.in_ok-insert-in-None.ensures.updates.0 lead))
    c.note_pointer.ensures.sound

pub returns-in_default : goal.returns-in_default
returns-in_default c =
    let s = c.args.self.now in
    record {
      sound = λ order lines sound lead. sound-insert order lines s.named s.class.items s.members.items s.children.entries s.todo.items sound c.insert.new.self.entries c.args.class c.args.label c.args.number c.in_ok-insert-in-None.ensures.updates.0 lead;
      named = refl;
    }
