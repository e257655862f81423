use Rattle.std.proofs.Common.{◌≡◌, ◌++◌, map, take}
use Rattle.rt_body.specs.Told.{reading_of}
use Rattle.rt_frame.specs.declared.question.Question.TheVariants.{OfDefinition}
use Rattle.rt_frame.specs.Questions.{results}
use Rattle.rt_frame.proofs.asked.ask_results.Given as goal

abbrev pub invariant-loop-def : goal.invariant-loop-def
invariant-loop-def l = record {
  items : l.def-items ≡ results (reading_of l.body) l.calls l.site l.register;
  asked : l.asked ≡ l.initial.asked ++ map (λ def. OfDefinition def l.register) (take l.def-index l.def-items);
}
