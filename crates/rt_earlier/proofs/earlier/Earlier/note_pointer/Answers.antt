use Rattle.std.proofs.Common.{sym}
use Rattle.rt_lines.specs.declared.label.Label.TheVariants.{Load, Store}
use Rattle.rt_earlier.proofs.Reaching.{leads_pointer}
use Rattle.rt_earlier.proofs.Keeping.{sound-push}
use Rattle.rt_earlier.proofs.earlier.Earlier.note_pointer.Goals as goal

pub returns-clause-sound : goal.returns-clause-sound
returns-clause-sound c = λ order lines sound.
    let s = c.args.self.now in
    let load = c.in-Some.load.now in
    let store = c.in-Some-get.store.now in
    sound-push order lines s.named s.class.items s.members.items s.children.entries s.todo.items sound c.push.new.self.items load store c.in_ok-push.ensures.items
    (leads_pointer order lines s.named c.args.class load store (sound.children_lead c.args.class Load load (sym c.in-Some.ensures.value)) (sound.children_lead c.args.class Store store (sym c.in-Some-get.ensures.value)))
