use Rattle.rt_earlier.proofs.Keeping.{sound-pop}
use Rattle.rt_earlier.proofs.earlier.Earlier.finish.Goals as goal

pub loop-preserved : goal.loop-preserved
loop-preserved c = λ order lines sound.
    let s = c.loop.self in
    let p = sound-pop order lines s.named s.class.items s.members.items s.children.entries s.todo.items (c.loop.invariant order lines sound) c.pop.new.self.items c.in-Some.i c.in-Some.j c.in-Some.ensures.items in
    c.in_ok-join.ensures order lines p.0 p.1
