use Rattle.std.proofs.Common.{◌<◌, sym, subst, ◌∙◌}
use Rattle.std.proofs.lemmas.Result.{on_ok_weaker}
use Rattle.rt_shape.specs.Inside.Classes.Joined.{joined_back}
use Rattle.rt_shape.proofs.Sound.{classes_join}
use Rattle.rt_shape.proofs.joining.Joining.join.Goals as goal

pub rename-requires : goal.rename-requires
rename-requires c =
    let r = c.requires in
    let s = c.args.self.now in
    let one = classes_join r.0 r.1 s.class.items s.members.items s.letters.items s.first.entries s.todo.items r.2 c.args.i c.args.j c.index-a.result.now c.index-b.result.now r.3 r.4 r.5 c.index-a.ensures c.index-b.ensures in
    (r.0, r.1, r.2, one.0, one.1, one.2)

pub rename-requires-else-len : goal.rename-requires-else-len
rename-requires-else-len c =
    let r = c.requires in
    let s = c.args.self.now in
    let one = classes_join r.0 r.1 s.class.items s.members.items s.letters.items s.first.entries s.todo.items r.2 c.args.i c.args.j c.index-a.result.now c.index-b.result.now r.3 r.4 r.5 c.index-a.ensures c.index-b.ensures in
    (r.0, r.1, r.2, one.1, one.0, joined_back one.2)

pub returns-then-len-clause-sound : goal.returns-then-len-clause-sound
returns-then-len-clause-sound c =
    let r = c.requires in
    let s = c.args.self.now in
    on_ok_weaker c.rename.result (λ renamed graph pairs sound one.
    let count = sym r.2.each ∙ sound.each in
    let names = classes_join graph pairs s.class.items s.members.items s.letters.items s.first.entries s.todo.items sound c.args.i c.args.j c.index-a.result.now c.index-b.result.now
    (subst (λ n. c.args.i < n) count r.3) (subst (λ n. c.args.j < n) count r.4) one c.index-a.ensures c.index-b.ensures in
    renamed graph pairs sound names.2) c.rename.ensures.sound

pub returns-else-len-clause-sound : goal.returns-else-len-clause-sound
returns-else-len-clause-sound c =
    let r = c.requires in
    let s = c.args.self.now in
    on_ok_weaker c.rename-else-len.result (λ renamed graph pairs sound one.
    let count = sym r.2.each ∙ sound.each in
    let names = classes_join graph pairs s.class.items s.members.items s.letters.items s.first.entries s.todo.items sound c.args.i c.args.j c.index-a.result.now c.index-b.result.now
    (subst (λ n. c.args.i < n) count r.3) (subst (λ n. c.args.j < n) count r.4) one c.index-a.ensures c.index-b.ensures in
    renamed graph pairs sound (joined_back names.2)) c.rename-else-len.ensures.sound
