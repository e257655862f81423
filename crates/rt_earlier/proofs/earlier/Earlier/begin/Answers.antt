use Rattle.std.proofs.Common.{◌≡◌, ◌<◌, Some, length, get_or, arith}
use Rattle.std.specs.Prelude.{slice_get}
use Rattle.std.proofs.lemmas.Grind.{common_steps}
use Rattle.std.proofs.lemmas.Option.{slice_get-get_or}
use Rattle.std.proofs.lemmas.Result.{on_ok_weaker}
use Rattle.rt_earlier.specs.Inside.Earlier.{AreOne}
use Rattle.rt_named.specs.Origins.{no_variable}
use Rattle.rt_earlier.proofs.Reaching.{reach_self}
use Rattle.rt_earlier.proofs.Keeping.{sound-next, sound-fewer, sound-put}
use Rattle.rt_earlier.proofs.Entering.{none_more}
use Rattle.rt_earlier.proofs.earlier.Earlier.begin.Goals as goal

pub returns-clause-sound : goal.returns-clause-sound
returns-clause-sound c =
    let s = c.args.self.now in
    let n = c.len-next.result in
    let next : n ≡ length s.class.items = grind (arith, common_steps) in
    let less : n < length s.named = omega (arith, c.len.ensures.count) in
    let x = get_or s.named n no_variable in
    let at : slice_get s.named n ≡ Some x = slice_get-get_or s.named n no_variable less in
    on_ok_weaker c.note_last.result (λ after order lines sound.
    let one : AreOne order lines s.named n n = record { from = x; at = at; reaches = reach_self order lines s.named x n at (sound.there n x at) } in
    let classed = sound-next order lines s.named s.class.items s.members.items s.children.entries s.todo.items sound c.push.new.self.items n c.in_ok-push.ensures.items next one in
    let wider = sound-fewer order lines s.named c.push.new.self.items s.members.items s.children.entries s.todo.items classed c.push-2.new.self.items
    (none_more s.members.items c.push-2.new.self.items c.new.result c.in_ok-push-2.ensures.items c.new.ensures) in
    after order lines (sound-put order lines s.named c.push.new.self.items c.push-2.new.self.items s.children.entries s.todo.items wider c.put.new.rows.items n n c.in_ok-put.ensures one))
    c.note_last.ensures.sound
