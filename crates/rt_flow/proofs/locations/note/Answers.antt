use Rattle.std.proofs.Common.{rules, sym, w64}
use Rattle.std.proofs.lemmas.Int.{to_z-of_z}
use Rattle.rt_flow.proofs.Grouping.{noted}
use Rattle.rt_flow.proofs.locations.note.Goals as goal

pub returns-in_ok-push-in-Some : goal.returns-in_ok-push-in-Some
returns-in_ok-push-in-Some c =
    let written = (c.get_mut.follows.holds c.push.new.self).3 (search rules) in
    noted c.args.groups.now.entries (c.get_mut.follows.lender c.push.new.self).entries c.args.site c.args.loc _ c.in-Some.sites.now c.push.new.self (to_z-of_z w64 c.args.loc c.ranges.loc) (sym c.in-Some.ensures.value) c.in_ok-push-in-Some.ensures.ok written.0
