use Rattle.std.proofs.Common.{arith}
use Rattle.rt_sat.proofs.Linking.{noted_set}
use Rattle.rt_sat.proofs.links.note.Goals as goal

pub returns-in_ok-push : goal.returns-in_ok-push
returns-in_ok-push c = noted_set c.args.near.now.items c.args.at c.args.state c.number-number.result c.index_mut.result.now c.push.new.self c.number-number.ensures (omega (arith, c.len.ensures)) c.index_mut.ensures.value c.in_ok-push.ensures.ok
