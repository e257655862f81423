use Rattle.std.proofs.Common.{subst, arith}
use Rattle.rt_shape.specs.Inside.Joins.{AreEmpty}
use Rattle.rt_shape.proofs.Begun.{AreEmpty-push}
use Rattle.rt_shape.proofs.joining.without_letters.Goals as goal

pub loop-preserved : goal.loop-preserved
loop-preserved c = rw c.in_ok-push.ensures.items (AreEmpty-push c.loop.counter c.loop.letters.items c.new.result c.loop.invariant c.new.ensures)

pub returns : goal.returns
returns c = subst (λ n. AreEmpty n c.loop.letters.items) (omega arith) c.loop.invariant
