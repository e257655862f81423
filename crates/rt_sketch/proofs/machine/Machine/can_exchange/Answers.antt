use Rattle.std.proofs.Common.{◌≡◌, true}
use Rattle.rt_sketch.proofs.machine.Machine.can_exchange.Goals as goal

pub returns-then-is_pointer : goal.returns-then-is_pointer
returns-then-is_pointer c = (λ t. (c.is_pointer.ensures.0 c.if-is_pointer.true, c.is_rw.ensures.0 t), λ p. c.is_rw.ensures.1 p.1)

pub returns-else-is_pointer : goal.returns-else-is_pointer
returns-else-is_pointer c = (λ t. absurd (cc), λ p. absurd (let t : c.is_pointer.result ≡ true = c.is_pointer.ensures.1 p.0 in cc))
