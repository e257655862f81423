use Rattle.std.proofs.Common.{◌≡◌, false, take}
use Rattle.std.specs.List.{list_any}
use Rattle.rt_body.specs.Told.{reading_of}
use Rattle.rt_frame.specs.Questions.{is_real}
use Rattle.rt_frame.proofs.questions.has_real.Given as goal

abbrev pub invariant-loop-def : goal.invariant-loop-def
invariant-loop-def l = list_any (is_real (reading_of l.body) l.calls l.register) (take l.def-index l.defs) ≡ false
