use Rattle.rt_entail.proofs.Reading.{reads_line, some_left}
use Rattle.rt_entail.proofs.file.read_file.Goals as goal

pub loop-rest-preserved : goal.loop-rest-preserved
loop-rest-preserved c =
    rw c.in-Ok-push.ensures.ok (reads_line _ _ _ _ _ _ _ c.loop-rest.invariant c.split_before.ensures (λ e. some_left _ e c.if-is_empty.ensures) c.in-Ok.ensures.0 c.in-Ok.ensures.1)
