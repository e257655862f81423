use Rattle.std.proofs.Common.{◌≡◌, filter, take}
use Rattle.rt_body.specs.Told.{reading_of}
use Rattle.rt_frame.specs.Questions.{is_result}
use Rattle.rt_frame.proofs.questions.results.Given as goal

abbrev pub invariant-loop-def : goal.invariant-loop-def
invariant-loop-def l = l.results.items ≡ filter (is_result (reading_of l.body) l.calls l.register) (take l.def-index l.defs)
