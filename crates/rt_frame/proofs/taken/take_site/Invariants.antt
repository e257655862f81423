use Rattle.std.proofs.Common.{◌≡◌, take}
use Rattle.rt_body.specs.Readings.{action_at}
use Rattle.rt_body.specs.Told.{reading_of}
use Rattle.rt_frame.specs.Frames.{IsOfFrame}
use Rattle.rt_frame.specs.Inside.Gathering.{Among, Gains}
use Rattle.rt_frame.specs.Questions.{questions}
use Rattle.rt_frame.proofs.taken.take_site.Given as goal

abbrev pub invariant-loop-question : goal.invariant-loop-question
invariant-loop-question l = record {
  items : l.question-items ≡ questions (reading_of l.body) l.calls l.site (action_at (reading_of l.body).actions l.site);
  gains : Gains l.initial.taken l.taken (Among (take l.question-index l.question-items) (λ question k. IsOfFrame (reading_of l.body) k question));
}
