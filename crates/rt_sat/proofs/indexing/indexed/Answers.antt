use Rattle.std.proofs.Common.{[], List, get_or, subst, sym}
use Rattle.std.proofs.lemmas.List.{get_or_default, take_all}
use Rattle.rt_sat.specs.declared.state.Edge.{Edge}
use Rattle.rt_sat.specs.Searches.{IsEntered, IsIndexed}
use Rattle.rt_sat.proofs.Indices.{indexed_none, indexed_step}
use Rattle.rt_sat.proofs.indexing.indexed.Goals as goal

pub loop-i-init : goal.loop-i-init
loop-i-init c = subst (IsIndexed []) (sym c.new-out.ensures.items) indexed_none

pub loop-i-preserved : goal.loop-i-preserved
loop-i-preserved c =
    let edge : Edge = get_or c.args.edges.now c.loop-i.i c.index-edges-i.result in
    indexed_step c.args.edges.now c.loop-i.i c.loop-i.out.items c.enter.new.out.items edge c.loop-i-test.true
    (get_or_default c.args.edges.now c.loop-i.i c.index-edges-i.result edge c.loop-i-test.true)
    (subst (λ n. IsEntered n c.loop-i.i c.loop-i.out.items c.enter.new.out.items) c.key.ensures c.in_ok-enter.ensures) c.loop-i.invariant

pub returns : goal.returns
returns c = subst (λ (xs : List Edge). IsIndexed xs c.loop-i.out.items) (take_all c.loop-i.i c.args.edges.now c.loop-i-test.false) c.loop-i.invariant
