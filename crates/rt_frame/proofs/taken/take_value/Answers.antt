use Rattle.std.proofs.Common.{◌≡◌, ℤ, rules, subst}
use Rattle.std.specs.Prelude.{FitsSigned}
use Rattle.std.specs.Int.{w32}
use Rattle.std.proofs.lemmas.Int.{to_z-of_z}
use Rattle.rt_track.specs.declared.value.Value.TheVariants.{Frame}
use Rattle.rt_frame.specs.Inside.Gathering.{Gains}
use Rattle.rt_frame.proofs.Gathered.{gains_as, frame_offset}
use Rattle.rt_frame.proofs.taken.take_value.Goals as goal

pub returns-in_ok-insert-in-Frame : goal.returns-in_ok-insert-in-Frame
returns-in_ok-insert-in-Frame c =
    let offset = c.in-Frame.offset in
    let fits : FitsSigned w32 c.in-Frame.offset = search rules in
    let gains = subst (λ (a : ℤ). Gains c.args.taken.now c.insert.new.self (λ k. k ≡ a)) (to_z-of_z w32 offset fits) c.in_ok-insert-in-Frame.ensures in
    gains_as (λ (k : ℤ). c.args.value ≡ Frame k) gains (frame_offset c.args.value offset c.in-Frame.is)
