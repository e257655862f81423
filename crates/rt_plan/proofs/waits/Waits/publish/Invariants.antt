use Rattle.std.proofs.Common.{◌≡◌, ◌+◌, ℕ, length, get_or, take}
use Rattle.rt_plan.specs.Inside.Boards.{AreReady, times}
use Rattle.rt_plan.proofs.waits.Waits.publish.Given as goal

abbrev pub invariant-loop-caller : goal.invariant-loop-caller
invariant-loop-caller l = record {
  each : length l.self.left.items ≡ length l.initial.self.left.items;
  left : (g : ℕ) → get_or l.self.left.items g 0 + times g (take l.caller-index l.callers) ≡ get_or l.initial.self.left.items g 0;
  ready : AreReady l.states l.self.left.items l.self.ready;
}
