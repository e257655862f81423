use Rattle.std.proofs.Common.{◌≡◌, ◌<◌, ℕ, length, get_or}
use Rattle.rt_proc.specs.declared.proc.Proc.{Proc}
use Rattle.rt_body.specs.declared.body.Body.{Body}
use Rattle.rt_body.specs.Right.{IsReading}
use Rattle.rt_body.specs.Told.{reading_of}
use Rattle.rt_table.proofs.preparation.bodies_of.Given as goal

abbrev pub invariant-loop-proc : goal.invariant-loop-proc
invariant-loop-proc l = record {
  one_each : length l.bodies.items ≡ l.proc-index;
  each : (q : ℕ) (proc : Proc) (body : Body) → q < l.proc-index → IsReading l.object (get_or l.proc-items q proc) (reading_of (get_or l.bodies.items q body));
}
