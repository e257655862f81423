use Rattle.rt_scheme.proofs.Origins.{ports-next}
use Rattle.rt_scheme.proofs.instance.ports.Goals as goal

pub loop-place-preserved : goal.loop-place-preserved
loop-place-preserved c =
    ports-next _ _ _ _ _ _ _ c.as_slice-origin-items.ensures.keys c.loop-place.invariant c.in_ok-push_port.ensures c.loop-place-test.true
