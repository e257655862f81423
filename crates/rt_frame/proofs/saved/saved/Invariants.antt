use Rattle.std.proofs.Common.{◌≡◌, [], Some}
use Rattle.rt_body.specs.Readings.{action_at}
use Rattle.rt_body.specs.Told.{reading_of}
use Rattle.rt_frame.specs.Inside.Gathering.{Gains, Upto, saved_by}
use Rattle.rt_frame.proofs.saved.saved.Given as goal

abbrev pub invariant-loop-site : goal.invariant-loop-site
invariant-loop-site l = Gains [] l.saved (Upto (λ site k. saved_by (reading_of l.body) site (action_at (reading_of l.body).actions site) ≡ Some k) l.site)
