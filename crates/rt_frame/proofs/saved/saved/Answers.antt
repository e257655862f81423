use Rattle.std.proofs.Common.{◌≡◌, ℕ, ℤ, [], Some, length, arith, ap, subst}
use Rattle.rt_body.specs.Readings.{action_at}
use Rattle.rt_body.specs.Told.{reading_of}
use Rattle.rt_frame.specs.Frames.{IsSaved}
use Rattle.rt_frame.specs.Inside.Gathering.{Gains, Upto, saved_by}
use Rattle.rt_frame.proofs.Gathered.{upto_step, upto_all}
use Rattle.rt_frame.proofs.Savings.{is_saved}
use Rattle.rt_frame.proofs.saved.saved.Goals as goal

pub loop-site-preserved : goal.loop-site-preserved
loop-site-preserved c =
    let reading = reading_of c.args.body.now in
    let P = λ (site : ℕ) (k : ℤ). saved_by reading site (action_at reading.actions site) ≡ Some k in
    upto_step P c.loop-site.site c.loop-site.invariant c.in_ok-save_site.ensures (λ k. (λ p. p, λ p. p))

pub returns : goal.returns
returns c =
    let reading = reading_of c.args.body.now in
    let P = λ (site : ℕ) (k : ℤ). saved_by reading site (action_at reading.actions site) ≡ Some k in
    let whole : c.loop-site.site ≡ length reading.actions = omega (arith, ap length c.actions.ensures.actions) in
    upto_all P (length reading.actions) (IsSaved reading) (subst (λ (n : ℕ). Gains [] c.loop-site.saved (Upto P n)) whole c.loop-site.invariant) (is_saved reading)
