use Rattle.std.proofs.Common.{get_or, subst}
use Rattle.std.proofs.lemmas.List.Elements.{Contains-get_or}
use Rattle.rt_link.specs.declared.place.Place.{Place}
use Rattle.rt_proc.specs.Ends.{Look, IsLookAt}
use Rattle.rt_proc.proofs.EntrySets.{reached-body}
use Rattle.rt_proc.proofs.Faulty.{first-fault, no-fault, sites-more}
use Rattle.rt_proc.proofs.finder.sites.Goals as goal

abbrev nowhere : Place
nowhere = record { section = 0; offset = 0 }

pub look-requires-clause-reached : goal.look-requires-clause-reached
look-requires-clause-reached c =
    let place = get_or c.args.body.now c.loop-place.place-index nowhere in
    reached-body c.args.code.now.source.object.now c.args.code.now.source.ends.now c.args.own place c.requires.entry
    ((c.requires.body place).0 (Contains-get_or c.args.body.now c.loop-place.place-index nowhere c.loop-place-test.true))

pub returns-in-Err-clause-bad : goal.returns-in-Err-clause-bad
returns-in-Err-clause-bad c =
    let place = get_or c.args.body.now c.loop-place.place-index nowhere in
    first-fault c.args.code.now.source.object.now c.args.code.now.source.ends.now c.args.own c.args.body.now c.requires.ascending c.requires.body c.loop-place.place-index nowhere c.in-Err.fault c.number.result c.number.ensures
    c.loop-place-test.true c.loop-place.invariant.sound (subst (λ (look : Look). IsLookAt c.args.code.now.source.object.now c.args.code.now.source.ends.now place look) c.in-Err.is c.look.ensures)

pub loop-place-preserved : goal.loop-place-preserved
loop-place-preserved c =
    let place = get_or c.args.body.now c.loop-place.place-index nowhere in
    sites-more c.args.code.now.source.object.now c.args.code.now.source.ends.now c.args.entries.now c.args.own c.args.body.now c.loop-place.place-index nowhere c.loop-place.sites c.push.new.self c.in_ok-site_of-in-Ok.field-0 c.in-Ok.form
    c.loop-place-test.true c.in_ok-push-in-Ok.ensures.ok c.in_ok-site_of-in-Ok.ensures (subst (λ (look : Look). IsLookAt c.args.code.now.source.object.now c.args.code.now.source.ends.now place look) c.in-Ok.is c.look.ensures) c.loop-place.invariant

pub returns-clause-sound : goal.returns-clause-sound
returns-clause-sound c = no-fault c.args.code.now.source.object.now c.args.code.now.source.ends.now c.args.own c.args.body.now c.requires.ascending c.requires.body c.loop-place.place-index c.loop-place-test.false c.loop-place.invariant.sound
