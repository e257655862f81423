use Rattle.std.proofs.Common.{◌≡◌, ◌++◌, flat_map, take}
use Rattle.rt_frame.specs.Questions.{call_questions}
use Rattle.rt_frame.proofs.asked.ask_calls.Given as goal

abbrev pub invariant-loop-call : goal.invariant-loop-call
invariant-loop-call l = l.asked ≡ l.initial.asked ++ flat_map (call_questions l.site) (take l.call-index l.calls)
