use Rattle.std.proofs.Common.{◌≡◌, ◌+◌, [], Contains, Some, sym, subst, ap, ◌∙◌, arith}
use Rattle.rt_sat.specs.Searches.{turned, IsKnown, IsOffered, IsVisited}
use Rattle.rt_sat.proofs.Searching.{unknown_state, visited_whole, visited_all}
use Rattle.rt_sat.proofs.search.visit.Goals as goal

pub returns-in_default-clause-relaxed : goal.returns-in_default-clause-relaxed
returns-in_default-clause-relaxed c = λ rest r. unknown_state c.args.most c.args.edges.now c.args.found.now c.args.next.now.items rest c.args.state (sym c.in_default.ensures.value) r

pub returns : goal.returns
returns c =
    let old = c.args.found.now in
    let new = c.follow.new.found in
    let active = c.args.next.now.items in
    let next = c.follow.new.next.items in
    let count = c.in_ok-count.count in
    let known : IsKnown c.args.found.now c.args.state c.in_ok-count.count = sym c.in-Some.ensures.value ∙ ap Some (sym c.in_ok-count.ensures) in
    let turn : c.in_ok-turn.turn ≡ 1 + c.in_ok-count.count = grind arith in
    let offered : IsOffered c.args.most c.args.found.now c.offer.new.found c.args.next.now.items c.offer.new.next.items (turned c.args.state) (1 + c.in_ok-count.count) =
    subst (IsOffered c.args.most c.args.found.now c.offer.new.found c.args.next.now.items c.offer.new.next.items (turned c.args.state)) turn c.in_ok-offer.ensures in
    let visited : IsVisited c.args.most c.args.edges.now c.args.found.now c.follow.new.found c.args.next.now.items c.follow.new.next.items c.args.state c.in_ok-count.count (Contains c.args.edges.now) =
    visited_whole c.args.most c.args.edges.now c.args.out.now old c.offer.new.found new active c.offer.new.next.items next [] c.args.state count c.requires known offered c.in_ok-follow.ensures in
    record {
      walks = visited.walks;
      fallen = visited.fallen;
      relaxed = λ rest r. visited_all c.args.most c.args.edges.now old active c.args.state count known new next rest visited r;
    }
