use Rattle.std.proofs.Common.{◌≡◌, true, take}
use Rattle.std.specs.List.{list_all}
use Rattle.rt_body.specs.Told.{reading_of}
use Rattle.rt_frame.specs.Questions.{is_scaled_by}
use Rattle.rt_frame.proofs.questions.is_index.Given as goal

abbrev pub invariant-loop-def : goal.invariant-loop-def
invariant-loop-def l = record {
  items : l.def-items ≡ (reading_of l.body).reaching l.site l.register;
  passed : list_all (is_scaled_by (reading_of l.body)) (take l.def-index l.def-items) ≡ true;
}
