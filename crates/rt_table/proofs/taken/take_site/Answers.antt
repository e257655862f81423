use Rattle.std.proofs.Common.{◌≡◌, Some, None, rules}
use Rattle.std.proofs.lemmas.List.{get_or_default}
use Rattle.rt_body.specs.Readings.{action_at}
use Rattle.rt_body.specs.Told.{reading_of}
use Rattle.rt_frame.specs.Told.{frame_of}
use Rattle.rt_table.specs.Inside.Taken.{taken_by}
use Rattle.rt_table.proofs.Taking.{gains-none, gains-one}
use Rattle.rt_table.proofs.taken.take_site.Goals as goal

pub returns-in_ok-insert-in-Some : goal.returns-in_ok-insert-in-Some
returns-in_ok-insert-in-Some c =
    let reading = reading_of c.args.body.now in
    let here = taken_by reading (frame_of c.args.frame.now) c.args.site (action_at reading.actions c.args.site) in
    let found : taken_by (reading_of c.args.body.now) (frame_of c.args.frame.now) c.args.site (action_at (reading_of c.args.body.now).actions c.args.site) ≡ Some c.in-Some.offset =
    search (rules, get_or_default, c.taken_by.ensures, c.in-Some.is)
    in
    gains-one c.args.taken.now c.insert.new.self here c.in-Some.offset found c.in_ok-insert-in-Some.ensures.updates

pub returns-in-None : goal.returns-in-None
returns-in-None c =
    let reading = reading_of c.args.body.now in
    let here = taken_by reading (frame_of c.args.frame.now) c.args.site (action_at reading.actions c.args.site) in
    let missing : taken_by (reading_of c.args.body.now) (frame_of c.args.frame.now) c.args.site (action_at (reading_of c.args.body.now).actions c.args.site) ≡ None =
    search (rules, get_or_default, c.taken_by.ensures, c.in-None.is)
    in
    gains-none c.args.taken.now.keys here missing
