use Rattle.std.proofs.Common.{◌≡◌, ℤ, Some, None, rules, subst}
use Rattle.std.proofs.lemmas.List.{get_or_default}
use Rattle.std.specs.Prelude.{FitsSigned}
use Rattle.std.specs.Int.{w32}
use Rattle.std.proofs.lemmas.Int.{to_z-of_z}
use Rattle.rt_body.specs.Readings.{action_at}
use Rattle.rt_body.specs.Told.{reading_of}
use Rattle.rt_frame.specs.Inside.Gathering.{Gains, saved_by}
use Rattle.rt_frame.proofs.Gathered.{gains_one, gains_none}
use Rattle.rt_frame.proofs.saved.save_site.Goals as goal

pub returns-in_ok-insert-in-Some : goal.returns-in_ok-insert-in-Some
returns-in_ok-insert-in-Some c =
    let reading = reading_of c.args.body.now in
    let here = saved_by reading c.args.site (action_at reading.actions c.args.site) in
    let found : saved_by reading c.args.site (action_at reading.actions c.args.site) ≡ Some c.in-Some.offset = search (rules, get_or_default, c.saved_by.ensures, c.in-Some.is) in
    let fits : FitsSigned w32 c.in-Some.offset = search rules in
    let gains = subst (λ (a : ℤ). Gains c.args.saved.now c.insert.new.self (λ k. k ≡ a)) (to_z-of_z w32 c.in-Some.offset fits) c.in_ok-insert-in-Some.ensures in
    gains_one here c.in-Some.offset found gains

pub returns-in-None : goal.returns-in-None
returns-in-None c =
    let reading = reading_of c.args.body.now in
    let here = saved_by reading c.args.site (action_at reading.actions c.args.site) in
    let missing : saved_by reading c.args.site (action_at reading.actions c.args.site) ≡ None = search (rules, get_or_default, c.saved_by.ensures, c.in-None.is) in
    gains_none c.args.saved.now here missing
