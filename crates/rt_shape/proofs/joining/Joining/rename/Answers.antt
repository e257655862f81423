use Rattle.std.proofs.lemmas.Result.{on_ok_weaker}
use Rattle.rt_shape.proofs.joining.Joining.rename.Goals as goal

pub move_letters-requires : goal.move_letters-requires
move_letters-requires c = let r = c.requires in (r.0, r.1, c.in_ok-move_members.ensures.sound r.0 r.1 r.2 r.5, r.3, r.4, r.5)

pub returns-clause-sound : goal.returns-clause-sound
returns-clause-sound c = on_ok_weaker c.move_letters.result (λ sound graph pairs old one. sound graph pairs (c.in_ok-move_members.ensures.sound graph pairs old one) one) c.move_letters.ensures.sound
