use Rattle.std.proofs.Common.{Ok, Err}
use Rattle.std.specs.declared.result.Result.{Result}
use Rattle.std.specs.Result.{IfOk}
use Rattle.rt_emit.proofs.writing.lines_of.Goals as goal

if_ok_weaker : {X E : Type 0} {P Q : X → Type 0} (r : Result X E) → ((x : X) → P x → Q x) → IfOk r P → IfOk r Q
if_ok_weaker (Ok x) h p = h x p
if_ok_weaker (Err e) h p = tt

pub returns : goal.returns
returns c =
    if_ok_weaker c.write_queued.result (λ written h order. h c.args.lines.now order c.requires.shape c.in_ok-queue.ensures)
    c.write_queued.ensures
