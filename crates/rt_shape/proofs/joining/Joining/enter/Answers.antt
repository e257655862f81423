use Rattle.std.proofs.Common.{◌<◌, sym, subst, ◌∙◌}
use Rattle.rt_shape.proofs.Sound.{leads_joined, sound-push, sound-insert, sound-letter}
use Rattle.rt_shape.proofs.joining.Joining.enter.Goals as goal

pub returns-in_ok-push-in-Some-clause-sound : goal.returns-in_ok-push-in-Some-clause-sound
returns-in_ok-push-in-Some-clause-sound c = λ graph pairs sound lead.
    let s = c.args.self.now in
    let other = sound.first_leads c.args.class c.args.letter c.in-Some.other.now (sym c.in-Some.ensures.value) in
    rw c.in_ok-push-in-Some.ensures.items
    (sound-push graph pairs s.class.items s.members.items s.letters.items s.first.entries s.todo.items sound c.in-Some.other.now c.args.to
    (other.0, lead.0, leads_joined graph pairs c.args.class c.args.letter c.in-Some.other.now c.args.to other lead))

pub returns-in_ok-push-in-None-clause-sound : goal.returns-in_ok-push-in-None-clause-sound
returns-in_ok-push-in-None-clause-sound c = λ graph pairs sound lead.
    let s = c.args.self.now in
    let less : c.args.class < graph.count = subst (λ n. c.args.class < n) (sym c.requires.2.letters_each ∙ sound.letters_each) c.requires.3 in
    let noted = sound-insert graph pairs s.class.items s.members.items s.letters.items s.first.entries s.todo.items sound c.args.class c.args.letter c.args.to lead c.insert.new.self.entries c.in_ok-insert-in-None.ensures.updates.0 in
    sound-letter graph pairs s.class.items s.members.items s.letters.items c.insert.new.self.entries s.todo.items noted c.args.class c.args.letter c.args.to lead c.index_mut.result.now c.push-in-None.new.self less c.index_mut.ensures.value c.in_ok-push-in-None.ensures.ok
