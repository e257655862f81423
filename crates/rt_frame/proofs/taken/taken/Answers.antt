use Rattle.std.proofs.Common.{◌≡◌, ℕ, ℤ, [], length, arith, ap, subst}
use Rattle.rt_body.specs.Readings.{action_at}
use Rattle.rt_body.specs.Told.{reading_of}
use Rattle.rt_frame.specs.Frames.{IsOfFrame, IsTaken}
use Rattle.rt_frame.specs.Inside.Gathering.{Among, Gains, Upto}
use Rattle.rt_frame.specs.Questions.{questions}
use Rattle.rt_frame.proofs.Gathered.{upto_step, upto_all}
use Rattle.rt_frame.proofs.taken.taken.Goals as goal

pub loop-site-preserved : goal.loop-site-preserved
loop-site-preserved c =
    let reading = reading_of c.args.body.now in
    let P = λ (site : ℕ). Among (questions reading c.args.calls.now site (action_at reading.actions site)) (λ question (k : ℤ). IsOfFrame reading k question) in
    upto_step P c.loop-site.site c.loop-site.invariant c.in_ok-take_site.ensures (λ k. (λ p. p, λ p. p))

pub returns : goal.returns
returns c =
    let reading = reading_of c.args.body.now in
    let P = λ (site : ℕ). Among (questions reading c.args.calls.now site (action_at reading.actions site)) (λ question (k : ℤ). IsOfFrame reading k question) in
    let whole : c.loop-site.site ≡ length reading.actions = omega (arith, ap length c.actions.ensures.actions) in
    upto_all P (length reading.actions) (IsTaken reading c.args.calls.now) (subst (λ (n : ℕ). Gains [] c.loop-site.taken (Upto P n)) whole c.loop-site.invariant)
    (λ k. (
      λ (site, within, (question, asked, of_frame)). record { site = site; within = within; question = question; asked = asked; is_of_frame = of_frame },
      λ t. (t.site, t.within, (t.question, t.asked, t.is_of_frame)),
    ))
