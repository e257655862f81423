use Rattle.std.proofs.Common.{◌↔◌, List, Contains, sym, subst, arith}
use Rattle.rt_liveness.specs.declared.rule.Rule.{Rule}
use Rattle.rt_liveness.specs.declared.rule.When.TheVariants.{Always, If}
use Rattle.rt_liveness.specs.Inside.Closures.{IsPremise, IsSaid, rules_at}
use Rattle.rt_liveness.proofs.Adding.{alike, from_none}
use Rattle.rt_liveness.proofs.Following.{begins, goes_on, ends, same_said}
use Rattle.rt_liveness.proofs.closure.closure.Goals as goal

pub loop-index-init : goal.loop-index-init
loop-index-init c =
    let rules = c.args.rules.now in
    begins rules c.note_all.new.found.keys (from_none c.new-found.result.keys c.note_all.new.found.keys (IsSaid rules Always) c.new-found.ensures.empty c.in_ok-note_all.ensures)

pub loop-index-preserved : goal.loop-index-preserved
loop-index-preserved c =
    let rules = c.args.rules.now in
    let premise = c.index-premise.result.now in
    let old = c.loop-index.found.keys in
    let new = c.follow.new.found.keys in
    let some = rules_at c.deref.result.now premise.procedure in
    goes_on rules old new c.loop-index.index premise c.index-premise.ensures
    (alike old new (IsSaid some (If premise)) (IsSaid rules (If premise))
    (same_said rules some premise
    (λ rule. subst (λ (t : List (List Rule)). Contains (rules_at t premise.procedure) rule ↔ (Contains rules rule × IsPremise premise.procedure rule)) (sym c.deref.ensures.value) (c.in_ok-table.ensures premise.procedure rule)))
    c.in_ok-follow.ensures)
    c.loop-index.invariant

pub returns : goal.returns
returns c = ends c.args.rules.now c.loop-index.found.keys c.loop-index.index (omega arith) c.loop-index.invariant
