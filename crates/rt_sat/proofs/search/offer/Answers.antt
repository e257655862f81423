use Rattle.std.proofs.Common.{ℕ, ◌≤◌, sym, subst}
use Rattle.rt_sat.specs.Searches.{IsKnown, IsOffered}
use Rattle.rt_sat.proofs.Searching.{offered_new, less_unknown}
use Rattle.rt_sat.proofs.search.offer.Goals as goal

pub returns : goal.returns
returns c =
    let less : (k : ℕ) → IsKnown c.args.found.now c.args.to k → c.args.count ≤ k = less_unknown c.args.found.now c.args.to c.args.count c.is_near.result c.is_near.ensures c.if-is_near.false in
    subst (λ active. IsOffered c.args.most c.args.found.now c.insert.new.self c.args.next.now.items active c.args.to c.args.count) (sym c.in_ok-push.ensures.items)
    (offered_new c.args.found.now c.insert.new.self c.args.to c.args.count c.in_ok-insert.ensures c.args.most c.args.next.now.items (c.allows.ensures.0 c.if-not-allows.false) less)
