use Rattle.std.proofs.Common.{◌<◌, ◌∙◌, sym, subst}
use Rattle.rt_ways.proofs.Hubs.{hub_arcs, hub_none}
use Rattle.rt_ways.proofs.arcs.enter_pointer.Goals as goal

pub add-requires : goal.add-requires
add-requires c = subst (λ n. c.args.number < n) (sym c.requires.each) c.requires.number

pub add-requires-in-Some : goal.add-requires-in-Some
add-requires-in-Some c = subst (λ n. c.in-Some.hub < n) (sym (c.in_ok-add-in-Some.ensures.each ∙ c.requires.each)) (c.requires.ready.within c.in-Some.ensures.0 c.in-Some.hub c.in-Some.ensures.2)

pub returns-in_ok-add-in-Some-2 : goal.returns-in_ok-add-in-Some-2
returns-in_ok-add-in-Some-2 c =
    hub_arcs c.args.frame.now c.args.number c.in-Some.hub c.args.arcs.now.items c.add.new.arcs.items c.add-in-Some.new.arcs.items c.requires.ready.distinct c.in-Some.ensures c.in_ok-add-in-Some.ensures c.in_ok-add-in-Some-2.ensures

pub returns-in-None : goal.returns-in-None
returns-in-None c = hub_none c.args.frame.now c.args.number c.args.arcs.now.items c.in-None.ensures
