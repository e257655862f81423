use Rattle.std.proofs.Common.{◌<◌, length, ap, arith, rules}
use Rattle.std.proofs.lemmas.List.{get_or_default}
use Rattle.rt_body.specs.Told.{reading_of}
use Rattle.rt_frame.specs.Frames.{Layout}
use Rattle.rt_frame.proofs.Storing.{site_more}
use Rattle.rt_frame.proofs.stored.stored.Goals as goal

pub loop-site-preserved : goal.loop-site-preserved
loop-site-preserved c =
    let reading = reading_of c.args.body.now in
    let layout : Layout = record { taken = c.args.taken.now; saved = c.args.saved.now } in
    let less : c.loop-site.site < length reading.actions = omega (arith, ap length c.actions.ensures.actions) in
    site_more reading layout reading.body c.loop-site.graph c.define_action.new.graph reading.actions c.loop-site.site less c.loop-site.invariant (search (rules, get_or_default, c.in_ok-define_action.ensures))
