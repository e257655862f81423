use Rattle.std.proofs.Common.{◌↔◌, ◌⊎◌, ◌+◌, ◌≤◌, Contains, length, take}
use Rattle.rt_lines.specs.declared.variable.Dtv.{Dtv}
use Rattle.rt_emit.specs.Inside.Writing.{IsNext}
use Rattle.rt_emit.proofs.writing.push_next.Given as goal

abbrev pub invariant-loop-label : goal.invariant-loop-label
invariant-loop-label l = record {
  holds : (y : Dtv) → Contains l.queue y ↔ (Contains l.fn.queue y ⊎ IsNext l.x (take l.label-index l.label-items) y);
  length : length l.queue ≤ length l.fn.queue + l.label-index;
}
