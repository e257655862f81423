use Rattle.std.proofs.Common.{[]}
use Rattle.rt_body.specs.Readings.{action_at}
use Rattle.rt_body.specs.Told.{reading_of}
use Rattle.rt_frame.specs.Frames.{IsOfFrame}
use Rattle.rt_frame.specs.Inside.Gathering.{Among, Gains, Upto}
use Rattle.rt_frame.specs.Questions.{questions}
use Rattle.rt_frame.proofs.taken.taken.Given as goal

abbrev pub invariant-loop-site : goal.invariant-loop-site
invariant-loop-site l = Gains [] l.taken (Upto (λ site. Among (questions (reading_of l.body) l.calls site (action_at (reading_of l.body).actions site)) (λ question k. IsOfFrame (reading_of l.body) k question)) l.site)
