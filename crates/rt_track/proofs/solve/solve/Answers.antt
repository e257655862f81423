use Rattle.std.proofs.Common.{rules, ◌≡◌, ◌<◌, List, ℕ, length, subst}
use Rattle.std.proofs.lemmas.List.{nil_from_length}
use Rattle.rt_track.specs.Inside.Nodes.{Visits}
use Rattle.rt_track.proofs.Visiting.{begins, within_here, visits, less_to_do, ends}
use Rattle.rt_track.proofs.solve.solve.Goals as goal

pub loop-node-init : goal.loop-node-init
loop-node-init c = begins c.args.nodes.now c.in_ok-states.states.items c.in_ok-work.work.items (c.in_ok-states.ensures.items_if_clones_equal (search rules)) c.in_ok-work.ensures.all c.in_ok-work.ensures.within

pub visit-requires-clause-within : goal.visit-requires-clause-within
visit-requires-clause-within c = within_here c.args.nodes.now c.in_ok-readers.readers.items c.in_ok-readers.ensures c.in-Some.node c.loop-node.states.items c.loop-node.work.items c.pop.new.self.items c.loop-node.invariant c.in-Some.ensures.items

pub loop-node-smaller : goal.loop-node-smaller
loop-node-smaller c =
    let less : c.in-Some.node < length c.args.nodes.now = within_here c.args.nodes.now c.in_ok-readers.readers.items c.in_ok-readers.ensures c.in-Some.node c.loop-node.states.items c.loop-node.work.items c.pop.new.self.items c.loop-node.invariant c.in-Some.ensures.items in
    less_to_do c.args.nodes.now c.in_ok-readers.readers.items c.in_ok-readers.ensures.each c.in-Some.node less c.loop-node.states.items c.loop-node.invariant.each c.loop-node.work.items c.pop.new.self.items c.in-Some.ensures.items
    c.visit.new.states.items c.visit.new.work.items (subst (λ (rs : List (List ℕ)). Visits c.args.nodes.now rs c.in-Some.node c.loop-node.states.items c.pop.new.self.items c.visit.new.states.items c.visit.new.work.items) c.deref.ensures.value c.in_ok-visit.ensures)

pub loop-node-preserved : goal.loop-node-preserved
loop-node-preserved c =
    visits c.args.nodes.now c.in_ok-readers.readers.items c.in_ok-readers.ensures c.in-Some.node c.loop-node.states.items c.loop-node.work.items c.pop.new.self.items c.loop-node.invariant c.in-Some.ensures.items
    c.visit.new.states.items c.visit.new.work.items (subst (λ (rs : List (List ℕ)). Visits c.args.nodes.now rs c.in-Some.node c.loop-node.states.items c.pop.new.self.items c.visit.new.states.items c.visit.new.work.items) c.deref.ensures.value c.in_ok-visit.ensures)

pub returns : goal.returns
returns c =
    let none : length c.loop-node.work.items ≡ 0 = search rules in
    ends c.args.nodes.now c.loop-node.states.items c.loop-node.work.items c.loop-node.invariant (nil_from_length c.loop-node.work.items none)
