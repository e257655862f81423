use Rattle.std.proofs.Common.{◌<◌, length, rules, subst, sym, set}
use Rattle.rt_track.specs.Inside.Nodes.{Notes}
use Rattle.rt_track.proofs.Noting.{noted_at}
use Rattle.rt_track.proofs.solve.note.Goals as goal

pub returns-in_ok-push : goal.returns-in_ok-push
returns-in_ok-push c =
    let less : c.in-Node.number < length c.args.readers.now.items = search rules in
    subst (λ x. Notes c.args.readers.now.items x c.args.reader (set c.args.readers.now.items c.in-Node.number c.push.new.self)) (sym c.in-Node.is)
    (noted_at c.args.readers.now.items c.in-Node.number c.args.reader less c.index_mut.result.now c.push.new.self c.index_mut.ensures.value c.in_ok-push.ensures.ok)
