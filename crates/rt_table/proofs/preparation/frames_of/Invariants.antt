use Rattle.std.proofs.Common.{◌≡◌, ◌<◌, ℕ, [], length, get_or}
use Rattle.rt_body.specs.declared.body.Body.{Body}
use Rattle.rt_table.specs.declared.facts.Framed.{Framed}
use Rattle.rt_table.specs.Inside.Framing.{IsFramed}
use Rattle.rt_table.proofs.preparation.frames_of.Given as goal

abbrev pub invariant-loop-place : goal.invariant-loop-place
invariant-loop-place l = record {
  one_each : length l.frames.items ≡ l.place;
  each : (q : ℕ) (body : Body) (framed : Framed) → q < l.place → IsFramed (get_or l.bodies q body) (get_or l.calls q []) (get_or l.frames.items q framed);
}
