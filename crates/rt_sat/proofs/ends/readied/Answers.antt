use Rattle.std.proofs.Common.{subst, sym}
use Rattle.std.proofs.lemmas.List.Elements.{All-push}
use Rattle.rt_sat.specs.Inside.Links.{AreReady, IsReady}
use Rattle.rt_sat.proofs.ends.readied.Goals as goal

pub loop-group-preserved : goal.loop-group-preserved
loop-group-preserved c =
    let known = c.args.frame.now.named in
    let flips = c.args.frame.now.flips.items in
    subst (AreReady known flips c.args.family.now c.args.links.now) (sym c.in_ok-push.ensures.items)
    (All-push (IsReady known flips c.args.family.now c.args.links.now) c.loop-group.all.items c.in_ok-ready.ready c.loop-group.invariant c.in_ok-ready.ensures)
